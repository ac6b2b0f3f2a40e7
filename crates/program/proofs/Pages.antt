-- The page of what was loaded is the page of the file.
use Rattle.std.proofs.Common.{◌≡◌, vec_items, string_bytes, refl}
use Rattle.std.proofs.lemmas.List.{length-map}
use Rattle.reader.specs.File.{told}
use Rattle.reader.specs.Loading.{LoadedFrom}
use Rattle.reader.specs.Rows.{exit_told, lock_told, question_told}
use Rattle.reader.specs.declared.content.Content.{Content}
use Rattle.reader.specs.declared.loaded.Loaded.{Loaded}
use Rattle.program.specs.Report.{page, loaded_page}

pub loaded_is_page : (c : Content) (l : Loaded) → LoadedFrom c l → loaded_page l ≡ page (told c)
loaded_is_page c l from =
    simp (from.names, from.questions, from.exit_lines, from.lock_lines, c.names.ok.0, c.questions.ok.0, length-map (vec_items c.names) string_bytes, length-map (vec_items c.exits) exit_told, length-map (vec_items c.locks) lock_told, length-map (vec_items c.questions) question_told) refl
