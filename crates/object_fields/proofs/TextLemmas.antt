-- Texts and names.
use Rattle.std.proofs.Common.{◌≡◌, ℕ, Bool, true, false, ◌&&◌, ◌||◌, ◌==◌, cond, List, [], ◌∷◌}
use Rattle.std.proofs.Common.{Some, None, refl, sym, ap, ◌∙◌, true≢false}
use Rattle.std.specs.List.{list_all}
use Rattle.std.specs.Str.{IsUtf8, is_utf8}
use Rattle.std.proofs.lemmas.Str.{is_utf8-from_IsUtf8, IsUtf8-from_is_utf8}
use Rattle.std.specs.Char.{is_ascii_lowercase, is_ascii_digit}
use Rattle.std.specs.Int.{is_in_range}
use Rattle.std.proofs.lemmas.Option.{none-some}
use Rattle.exact_fraction.specs.Label.{is_label_byte, is_label, label_of}
use Rattle.object_terms.specs.Form.{utf8_in}
use Rattle.object_terms.specs.Scalars.{is_name_byte, is_object_name}

pub utf8_found : (bytes t : List ℕ) → t ≡ bytes → IsUtf8 bytes → Some t ≡ utf8_in bytes
unfolding utf8_in
utf8_found bytes t e h = ap Some e
    ∙ sym (ap (λ b. cond b (Some bytes) None) (is_utf8-from_IsUtf8 bytes h))

not_found : (bytes : List ℕ) (b : Bool) → is_utf8 bytes ≡ b → (IsUtf8 bytes → ⊥)
    → None ≡ cond b (Some bytes) None
not_found bytes true e h = absurd (h (IsUtf8-from_is_utf8 bytes e))
not_found bytes false e h = refl

pub utf8_not_found : (bytes : List ℕ) → (IsUtf8 bytes → ⊥) → None ≡ utf8_in bytes
unfolding utf8_in
utf8_not_found bytes h = not_found bytes (is_utf8 bytes) refl h

and_left : (x y : Bool) → (x && y) ≡ true → x ≡ true
and_left true y h = refl
and_left false y h = h

and_right : (x y : Bool) → (x && y) ≡ true → y ≡ true
and_right true y h = h
and_right false y h = absurd (true≢false (sym h))

and_both : (x y : Bool) → x ≡ true → y ≡ true → (x && y) ≡ true
and_both true y h k = k
and_both false y h k = absurd (true≢false (sym h))

one_of_these : (digit upper lower dot line dash : Bool) → (lower || digit || dash) ≡ true
    → (digit || upper || lower || dot || line || dash) ≡ true
one_of_these true upper lower dot line dash h = refl
one_of_these false true lower dot line dash h = refl
one_of_these false false true dot line dash h = refl
one_of_these false false false true line dash h = refl
one_of_these false false false false true dash h = refl
one_of_these false false false false false dash h = h

label_byte : (b : ℕ) → is_name_byte b ≡ true → is_label_byte b ≡ true
label_byte b h = one_of_these (is_ascii_digit b) (is_in_range 65 90 b) (is_ascii_lowercase b)
    (b == 46) (b == 95) (b == 45) h

label_bytes : (bs : List ℕ) → list_all is_name_byte bs ≡ true → list_all is_label_byte bs ≡ true
label_bytes [] h = refl
label_bytes (b ∷ bs) h =
    and_both _ _ (label_byte b (and_left _ _ h)) (label_bytes bs (and_right _ _ h))

-- the name of an object is a label
pub name_label : (bs : List ℕ) → is_object_name bs ≡ true → is_label bs ≡ true
name_label bs h =
    let front = and_left _ _ (and_left _ _ h) in
    and_both _ _ (and_left _ _ front) (label_bytes bs (and_right _ _ front))

-- so it is read as one
pub name_read : (bs : List ℕ) (P : Type 0) → is_object_name bs ≡ true → None ≡ label_of bs → P
name_read bs P h none =
    let some : label_of bs ≡ Some bs = ap (λ b. cond b (Some bs) None) (name_label bs h) in
    absurd (none-some bs (none ∙ some))
