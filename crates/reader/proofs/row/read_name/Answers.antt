use Rattle.std.proofs.Common.{◌∙◌, sym, rules, tests}
use Rattle.std.proofs.lemmas.Iterator.{YieldsList-from_slice}
use Rattle.std.proofs.lemmas.Iterator.Search.{all_from_yields_List}
use Rattle.reader.specs.Rows.{name_byte}
use Rattle.reader.proofs.Words.{utf8_ok, name_read, name_bytes}
use Rattle.reader.proofs.row.read_name.Goals as goal

pub returns : goal.returns
returns c =
    let all = all_from_yields_List name_byte _ _ c.all.result c.all.ensures.ran (YieldsList-from_slice c.args.line.now cc) (λ x b q k. search (rules, tests)) in
    name_read c.args.line.now c.ok.result (search rules, search rules, name_bytes _ (sym all ∙ c.if-not-all.false))
    (utf8_ok c.args.line.now _ c.from_utf8.result c.ok.result c.from_utf8.ensures.cases c.ok.ensures.value)
