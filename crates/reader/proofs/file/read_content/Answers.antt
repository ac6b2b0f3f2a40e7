use Rattle.reader.proofs.Files.{answer_refusal, answer_exactly}
use Rattle.reader.proofs.file.read_content.Goals as goal

pub returns-clause-refusal : goal.returns-clause-refusal
returns-clause-refusal c = answer_refusal c.args.bytes.now c.read_sections.result c.if-bytes-gt-MOST_BYTES.false c.read_sections.ensures

pub returns-clause-exactly : goal.returns-clause-exactly
returns-clause-exactly c = answer_exactly c.args.bytes.now c.read_sections.result c.read_sections.ensures
