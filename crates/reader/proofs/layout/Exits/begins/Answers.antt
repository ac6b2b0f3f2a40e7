use Rattle.std.proofs.Common.{ltb, rules, tests}
use Rattle.std.proofs.lemmas.List.Sorted.{IsPartitionPoint-from_clause, IsPartitionedBy-ltb}
use Rattle.reader.specs.declared.content.ExitLine.{ExitLine}
use Rattle.reader.proofs.Layouts.{partition_count}
use Rattle.reader.proofs.layout.Exits.begins.Goals as goal

pub returns : goal.returns
returns c =
    let xs = c.args.self.now.lines.now in
    let below = λ (x : ExitLine). ltb x.from c.args.mode in
    partition_count below xs c.partition_point.result c.partition_point.ensures.bound
    (IsPartitionPoint-from_clause below xs c.partition_point.result c.partition_point.ensures.partitioned (IsPartitionedBy-ltb (λ x. x.from) xs c.args.mode c.args.self.now.rising) (λ a r f k. search (rules, tests)))
