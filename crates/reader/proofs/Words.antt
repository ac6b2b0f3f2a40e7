-- The numbers that words and fields write.
use Rattle.std.proofs.Common.{◌≡◌, ℕ, zero, suc, ◌+◌, ◌*◌, ◌^◌, ◌<◌, ◌≤◌, true, List, [], ◌∷◌, length, get_or, drop, Some, None, Ok, Err, decimal, Option, Result, MatchOption, MatchResult, Bor, sym, ap, ◌∙◌, subst, ⊎_elim, arith}
use Rattle.std.specs.List.{AllByRecursion, list_all}
use Rattle.std.specs.Option.{SomeIff, option_map}
use Rattle.std.specs.Result.{result_ok}
use Rattle.std.specs.Str.{IsUtf8}
use Rattle.std.specs.Str.Parse.{AllDigits, digits_value, digits_value_after}
use Rattle.std.specs.Char.{digit_value}
use Rattle.std.proofs.lemmas.Fmt.{decimal_nonempty, decimal_digit, first_decimal, digits_decimal, digits_value-decimal, decimal-digits_value, decimal_injective}
use Rattle.std.proofs.lemmas.Bool.Decides.{nat_tests}
use Rattle.std.proofs.lemmas.Str.{IsUtf8-from_ascii}
use Rattle.std.proofs.lemmas.Str.Parse.{IsNumeralModel, numerals_by_value, tells_digits}
use Rattle.std.proofs.lemmas.List.{at_drop_more}
use Rattle.std.proofs.lemmas.List.Elements.{recursion_from_All}
use Rattle.std.proofs.lemmas.List.Sums.{AllPass-from_list_all}
use Rattle.std.proofs.ByRecursion.{All-weaker, IsAscii-from_all}
use Rattle.std.proofs.str.Laws.{order}
use Rattle.reader.specs.Lines.{Free, Cut, Reads, number_form, Field, NoField}
use Rattle.reader.specs.declared.content.Letter.{Letter}
use Rattle.reader.specs.Rows.{LetterField, name_byte, Name, name_form}
use Rattle.reader.proofs.Cuts.{cut_once, not_free}

own : IsNumeralModel (AllDigits 10) (digits_value 10)
own = numerals_by_value (AllDigits 10) tells_digits

-- more digits make no smaller number
pub value_grows : (n : ℕ) (ds : List ℕ) → n ≤ digits_value_after 10 n ds
value_grows n [] = omega arith
value_grows n (c ∷ cs) = omega (arith, value_grows (n * 10 + digit_value c) cs)

pub digit_at : (ds : List ℕ) (i : ℕ) → AllDigits 10 ds → i < length ds → digit_value (get_or ds i 0) < 10
digit_at [] i p l = absurd (omega arith)
digit_at (c ∷ cs) zero p l = p.0
digit_at (c ∷ cs) (suc i) p l = digit_at cs i p.1 (omega arith)

-- what is no digit stands in no row of digits
free_digits : (e : ℕ) (ds : List ℕ) → 10 ≤ digit_value e → AllDigits 10 ds → Free e ds
free_digits e [] h p = tt
free_digits e (c ∷ cs) h p = ((λ q. let d = ap digit_value q in let l = p.0 in omega arith), free_digits e cs h p.1)

pub free_number : (e n : ℕ) → 10 ≤ digit_value e → n < 2 ^ 32 → Free e (decimal n)
free_number e n h l = free_digits e (decimal n) h (digits_decimal own n (omega arith))

pub same_number : (m n : ℕ) → m < 2 ^ 32 → n < 2 ^ 32 → decimal m ≡ decimal n → m ≡ n
same_number m n k l e = decimal_injective m n (omega arith) (omega arith) e

-- bytes are text, or they are not
pub utf8_ok : {E : Type 0} (bs : List ℕ) (Q : E → Type 0) (r : Result (Bor (List ℕ)) E) (o : Option (Bor (List ℕ))) → MatchResult r (λ s. (s.now ≡ bs) × IsUtf8 bs) (λ e. (IsUtf8 bs → ⊥) × Q e) → o ≡ result_ok r → MatchOption o (IsUtf8 bs → ⊥) (λ s. s.now ≡ bs)
utf8_ok bs Q (Ok s) o h e = rw e (h.0)
utf8_ok bs Q (Err x) o h e = rw e (h.0)

-- a word of digits without a leading zero is read as its value
pub number_read : (word : List ℕ) (r : Option ℕ) → 0 < length word → (get_or word 0 0 ≡ 48 → length word ≡ 1) → SomeIff r (AllDigits 10 word × (digits_value 10 word < 2 ^ 32)) (digits_value 10 word) → Reads number_form word r
number_read word None some lead h = λ n l e.
    let d : AllDigits 10 word = subst (AllDigits 10) e (digits_decimal own n (omega arith)) in
    let v : digits_value 10 word ≡ n = sym (ap (digits_value 10) e) ∙ digits_value-decimal own n (omega arith) in
    h (d, omega arith)
number_read word (Some n) some lead h =
    let l = h.0.1 in
    let e = h.1 in
    (omega arith, ap decimal e ∙ decimal-digits_value own word h.0.0 some lead (omega arith))

pub no_number_empty : (word : List ℕ) → length word ≡ 0 → Reads number_form word None
no_number_empty word z n l e = omega (arith, decimal_nonempty n (omega arith), ap length e)

pub no_number_zero : (word : List ℕ) → get_or word 0 0 ≡ 48 → 1 < length word → Reads number_form word None
no_number_zero word z long n l e =
    ⊎_elim
    (λ p. omega (arith, first_decimal n p (omega arith), ap (λ w. get_or w 0 0) e))
    (λ p. omega (arith, ap length (decimal_digit n (omega arith)), ap length e))
    (order 0 n)

pub field_once : (line : List ℕ) (m n : ℕ) (s t : List ℕ) → Field line m s → Field line n t → (m ≡ n) × (s ≡ t)
field_once line m n s t f g =
    let k = f.0 in
    let l = g.0 in
    let r = cut_once 32 (decimal m) (decimal n) s t (free_number 32 m (omega arith) k) (free_number 32 n (omega arith) l) (f.1 ∙ sym g.1) in
    (same_number m n k l r.0, r.1)

pub no_field_uncut : (line : List ℕ) → Free 32 line → NoField line
no_field_uncut line free n rest f = not_free 32 (decimal n) rest (subst (Free 32) (sym f.1) free)

pub no_field_word : (line word rest : List ℕ) → Cut 32 line word rest → Reads number_form word None → NoField line
no_field_word line word rest c unread n t f =
    let r = cut_once 32 (decimal n) word t rest (free_number 32 n (omega arith) f.0) c.0 (f.1 ∙ c.1) in
    unread n f.0 r.0

-- one more digit read: what is left still gives the word's value, which is at least what was read
pub value_more : (word : List ℕ) (i n : ℕ) → i < length word → digits_value_after 10 n (drop i word) ≡ digits_value 10 word → digits_value_after 10 (n * 10 + digit_value (get_or word i 0)) (drop (i + 1) word) ≡ digits_value 10 word
value_more word i n l e = sym (at_drop_more (digits_value_after 10 n) word i 0 l) ∙ e

pub value_least : (word : List ℕ) (i n : ℕ) → i < length word → digits_value_after 10 n (drop i word) ≡ digits_value 10 word → n * 10 + digit_value (get_or word i 0) ≤ digits_value 10 word
value_least word i n l e =
    omega (arith, value_more word i n l e, value_grows (n * 10 + digit_value (get_or word i 0)) (drop (i + 1) word))

-- what stands behind a letter's field
pub letter_once : (line : List ℕ) (l m : Letter) (s t : List ℕ) → LetterField line l s → LetterField line m t → s ≡ t
letter_once line l m s t f g = cc

pub name_byte_ascii : (b : ℕ) → name_byte b ≡ true → b < 128
name_byte_ascii b e = grind (arith, nat_tests)

-- a name is text
pub name_read : (line : List ℕ) (o : Option (Bor (List ℕ))) → Name line → MatchOption o (IsUtf8 line → ⊥) (λ s. s.now ≡ line) → Reads name_form line (option_map (λ s. s.now) o)
name_read line (Some s) name e = (subst Name (sym e) name, e)
name_read line None name h = absurd (h (IsUtf8-from_ascii line (IsAscii-from_all line (All-weaker _ _ name_byte_ascii line name.2))))

pub name_bytes : (line : List ℕ) → list_all name_byte line ≡ true → AllByRecursion (λ b. name_byte b ≡ true) line
name_bytes line e = recursion_from_All _ line (AllPass-from_list_all name_byte line e)
