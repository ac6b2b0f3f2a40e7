use Rattle.std.proofs.lemmas.Result.{err_from_is_err_and}
use Rattle.reader.proofs.Loads.{passed, load_answer, load_refusal}
use Rattle.reader.proofs.load.load.Goals as goal

pub returns-in_err-content : goal.returns-in_err-content
returns-in_err-content c =
    let p = err_from_is_err_and c.from_residual.result c.from_residual.ensures.1 in
    rw (p.1, p.2) (record { loaded = tt; refusal = passed _ c.in_err-content.field-0.0 c.in_err-content.ensures.refusal })

pub returns : goal.returns
returns c =
    let read = c.in_ok-content.ensures in
    record {
      loaded = load_answer _ c.in_ok-content.content c.build.result (read.text, read.ranges, read.exactly) c.build.ensures;
      refusal = load_refusal _ c.in_ok-content.content c.build.result (read.text, read.ranges, read.exactly) c.build.ensures;
    }
