-- The moments that are read are those of the definition.
use Rattle.std.proofs.Common.{◌≡◌, ℕ, Bool, true, false, List, Option, Some, None, true≢false, refl}
use Rattle.std.proofs.Common.{sym, ap, ◌∙◌}
use Rattle.std.specs.Prelude.{IfSome}
use Rattle.std.proofs.lemmas.Option.{none-some}
use Rattle.zone_calendar.specs.CivilText.{parts_in, parts_of, parts_text, is_moment, civil_text}
use Rattle.zone_calendar.specs.declared.civil.Civil.{Civil}
use Rattle.zone_calendar.specs.declared.civil_text.Parts.{Parts}
use Rattle.zone_calendar.proofs.CivilLemmas.{is_moment-civil, parts_in-civil, text_of_parts}
use Rattle.zone_calendar.proofs.SameLemmas.{civil_same}
use Rattle.zone_calendar.specs.CivilRead.{in_range, civil_of, civil_from, civil_when, civil_read}

civil_again : (m : Civil) (b : Bool) (e : is_moment (parts_of m) ≡ b)
    → civil_from (parts_of m) b e ≡ Some m
civil_again m true e = ap Some (civil_same (civil_of (parts_of m) (in_range (parts_of m) e)) m refl)
civil_again m false e = absurd (true≢false (sym (is_moment-civil m) ∙ e))

none_from : (text : List ℕ) (p : Parts) (b : Bool) (e : is_moment p ≡ b) → text ≡ parts_text p
    → ((m : Civil) → text ≡ civil_text m → None ≡ Some m) → None ≡ civil_from p b e
none_from text p true e t h = absurd (none-some _ (h (civil_of p (in_range p e)) t))
none_from text p false e t h = refl

none_when : (text : List ℕ) (o : Option Parts) → parts_in text ≡ o
    → ((m : Civil) → text ≡ civil_text m → None ≡ Some m) → None ≡ civil_when o
none_when text None e h = refl
none_when text (Some p) e h = none_from text p (is_moment p) refl (text_of_parts text p e) h

pub read_as_moment : (r : Option Civil) (text : List ℕ) → IfSome r (λ m. text ≡ civil_text m)
    → ((m : Civil) → text ≡ civil_text m → r ≡ Some m) → r ≡ civil_read text
unfolding civil_read
read_as_moment (Some m) text e h = sym
    (ap civil_when (ap parts_in e ∙ parts_in-civil m) ∙ civil_again m (is_moment (parts_of m)) refl)
read_as_moment None text e h = none_when text (parts_in text) refl h
