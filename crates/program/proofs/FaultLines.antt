-- The line of a fault is its text and a line feed.
use Rattle.std.proofs.Common.{◌≡◌, ◌≢◌, ◌++◌, Some, codes, decimal, sym, ap, ◌∙◌, append_assoc, refl}
use Rattle.charts.specs.Faults.{lock_number}
use Rattle.reader.specs.Faults.{load_text}
use Rattle.reader.specs.declared.fault.LoadFault.{LoadFault}
use Rattle.reader.specs.declared.fault.LoadFault.TheVariants.{Reading, Chart, Lock, NoMemory}
use Rattle.program.specs.Report.{fault_line}

pub line_is_text : (e : LoadFault) → e ≢ NoMemory → fault_line e ≡ Some (load_text e ++ codes "\n")
line_is_text (Reading at) some = simp append_assoc refl
line_is_text (Chart at) some = simp append_assoc refl
line_is_text (Lock at) some =
    let number = decimal (lock_number at.fault.fault) ++ (codes " lock " ++ decimal at.fault.lock) in
    ap (λ t. Some (codes "fault lock " ++ t)) (sym (append_assoc number (codes " line " ++ decimal at.line) (codes "\n") ∙ append_assoc (decimal (lock_number at.fault.fault)) (codes " lock " ++ decimal at.fault.lock) _))
line_is_text NoMemory some = absurd (some refl)
