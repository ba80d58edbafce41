-- What stands on a line, one byte after another.
use Rattle.std.proofs.Common.{◌≡◌, ℕ, suc, ◌+◌, ◌-◌, ◌^◌, ◌<◌, ◌≤◌, Bool, true, false, List, []}
use Rattle.std.proofs.Common.{◌∷◌, Option, Some, None, cond, length, drop, get_or, refl, sym, ap}
use Rattle.std.proofs.Common.{◌∙◌, append_assoc, append-nil, arith}
use Rattle.std.specs.Prelude.{nat_le, ◌&&◌, ◌==◌}
use Rattle.std.proofs.lemmas.Bool.Decides.{nat_tests}
use Rattle.std.proofs.lemmas.List.{drop_all}
use Rattle.yaml_terms.specs.Mark.{dash}
use Rattle.yaml_terms.specs.Block.{is_blank_byte}
use Rattle.yaml_terms.specs.FaultOrder.{place, earlier}
use Rattle.yaml_terms.specs.Line.{Line, no_marks, with_mark, with_fault, plain_len, stops_plain}
use Rattle.yaml_terms.specs.Line.{tab_fault, ends_word, content, entry_or_value, key_of}
use Rattle.yaml_lines.specs.LineView.{joined_lines, blank_seen, dash_seen, ahead_of}
use Rattle.yaml_lines.specs.declared.line.Ahead.{Ahead}
use Rattle.yaml_lines.specs.declared.line.Ahead.TheVariants.{Blank, Comment, Dash as Dashed, Entry}
use Rattle.yaml_terms.specs.declared.ProfileFault.{ProfileFault}
use Rattle.yaml_lines.proofs.ScanLemmas.{step_at}

-- one byte more, where the scalar doesn't end before it
pub plain_len_more : (bytes : List ℕ) (at : ℕ) → at < length bytes
    → plain_len (drop at bytes) ≡ cond (stops_plain (get_or bytes at 0) (drop (at + 1) bytes)) 0
    (suc (plain_len (drop (at + 1) bytes)))
plain_len_more bytes at h = ap plain_len (step_at bytes at h)

earlier_none : (a : Option ProfileFault) → earlier a None ≡ a
earlier_none None = refl
earlier_none (Some a) = refl

place_le : (a b c : ProfileFault) (p q r : Bool) → nat_le (place a) (place b) ≡ p
    → nat_le (place b) (place c) ≡ q → nat_le (place a) (place c) ≡ r
    → earlier (cond p (Some a) (Some b)) (Some c) ≡ earlier (Some a) (cond q (Some b) (Some c))
place_le a b c true true r x y z = let e : nat_le (place a) (place c) ≡ true =
    grind (arith, nat_tests) in rw (x, e) refl
place_le a b c true false r x y z = refl
place_le a b c false true r x y z = rw (x, y) refl
place_le a b c false false r x y z = let e : nat_le (place a) (place c) ≡ false =
    grind (arith, nat_tests) in rw (y, e) refl

pub earlier_assoc : (a b c : Option ProfileFault)
    → earlier (earlier a b) c ≡ earlier a (earlier b c)
earlier_assoc None b c = refl
earlier_assoc (Some a) None c = refl
earlier_assoc (Some a) (Some b) None = earlier_none _
earlier_assoc (Some a) (Some b) (Some c) = place_le a b c _ _ _ refl refl refl

pub joined_none : (l : Line) → joined_lines l no_marks ≡ l
joined_none l = rw (append-nil, earlier_none l.fault) refl

joined_blank : (l m : Line) (c : ℕ)
    → joined_lines l (with_fault (tab_fault c) m) ≡ joined_lines (blank_seen l c) m
joined_blank l m c = rw (earlier_assoc l.fault (tab_fault c) m.fault) refl

joined_dash : (l m : Line) (n : ℕ) → joined_lines l (with_mark (dash n) m)
    ≡ joined_lines (dash_seen l n) m
joined_dash l m n = rw (append_assoc l.marks (dash n ∷ []) m.marks) refl

next_column : (column at : ℕ) → suc (column + at) ≡ column + (at + 1)
next_column column at = omega arith

content_at : (bytes : List ℕ) (at n : ℕ) → at < length bytes
    → content n (drop at bytes) ≡ content n (get_or bytes at 0 ∷ drop (at + 1) bytes)
content_at bytes at n h = ap (content n) (step_at bytes at h)

-- what stands from a column on, by its first byte
by_ahead : Ahead → ℕ → ℕ → List ℕ → Line
by_ahead Blank n c cs = with_fault (tab_fault c) (content (suc n) cs)
by_ahead Comment n c cs = no_marks
by_ahead Dashed n c cs = with_mark (dash n) (content (suc n) cs)
by_ahead Entry n c cs = entry_or_value n (c ∷ cs) (key_of (c ∷ cs))

content_ahead : (n c : ℕ) (cs : List ℕ) → content n (c ∷ cs) ≡ by_ahead (ahead_of c cs) n c cs
unfolding by_ahead
content_ahead n c cs = by_tests (is_blank_byte c) (c == 35) ((c == 45) && ends_word cs)
  where
    by_tests : (p q r : Bool) → cond p (with_fault (tab_fault c) (content (suc n) cs))
        (cond q no_marks (cond r (with_mark (dash n) (content (suc n) cs))
        (entry_or_value n (c ∷ cs) (key_of (c ∷ cs)))))
        ≡ by_ahead (cond p Blank (cond q Comment (cond r Dashed Entry))) n c cs
    by_tests true q r = refl
    by_tests false true r = refl
    by_tests false false true = refl
    by_tests false false false = refl

module _ (l : Line) (bytes : List ℕ) (column at : ℕ) (within : at < length bytes) where
  there : (a : Ahead) → ahead_of (get_or bytes at 0) (drop (at + 1) bytes) ≡ a
      → joined_lines l (content (column + at) (drop at bytes))
      ≡ joined_lines l (by_ahead a (column + at) (get_or bytes at 0) (drop (at + 1) bytes))
  there a e = ap (joined_lines l) (content_at bytes at (column + at) within
      ∙ content_ahead (column + at) (get_or bytes at 0) (drop (at + 1) bytes)
      ∙ ap (λ (x : Ahead). by_ahead x (column + at) (get_or bytes at 0) (drop (at + 1) bytes)) e)

  pub content_blank : ahead_of (get_or bytes at 0) (drop (at + 1) bytes) ≡ Blank
      → joined_lines l (content (column + at) (drop at bytes))
      ≡ joined_lines (blank_seen l (get_or bytes at 0))
      (content (column + (at + 1)) (drop (at + 1) bytes))
  unfolding by_ahead
  content_blank e = there Blank e
      ∙ joined_blank l (content (suc (column + at)) (drop (at + 1) bytes)) (get_or bytes at 0)
      ∙ ap (λ (n : ℕ). joined_lines (blank_seen l (get_or bytes at 0))
      (content n (drop (at + 1) bytes)))
      (next_column column at)

  pub content_dash : ahead_of (get_or bytes at 0) (drop (at + 1) bytes) ≡ Dashed
      → joined_lines l (content (column + at) (drop at bytes))
      ≡ joined_lines (dash_seen l (column + at)) (content (column + (at + 1)) (drop (at + 1) bytes))
  unfolding by_ahead
  content_dash e = there Dashed e
      ∙ joined_dash l (content (suc (column + at)) (drop (at + 1) bytes)) (column + at)
      ∙ ap (λ (n : ℕ). joined_lines (dash_seen l (column + at)) (content n (drop (at + 1) bytes)))
      (next_column column at)

  pub content_comment : ahead_of (get_or bytes at 0) (drop (at + 1) bytes) ≡ Comment
      → joined_lines l (content (column + at) (drop at bytes)) ≡ l
  unfolding by_ahead
  content_comment e = there Comment e ∙ joined_none l

  pub content_entry : ahead_of (get_or bytes at 0) (drop (at + 1) bytes) ≡ Entry
      → joined_lines l (content (column + at) (drop at bytes))
      ≡ joined_lines l (entry_or_value (column + at) (drop at bytes) (key_of (drop at bytes)))
  unfolding by_ahead
  content_entry e = there Entry e ∙ ap (λ (cs : List ℕ).
      joined_lines l (entry_or_value (column + at) cs (key_of cs))) (sym (step_at bytes at within))

-- what stands behind the last byte
pub content_end : (l m : Line) (bytes : List ℕ) (column at : ℕ) → length bytes ≤ at
    → joined_lines l (content (column + at) (drop at bytes)) ≡ m → l ≡ m
content_end l m bytes column at h e =
    sym (ap (λ (cs : List ℕ). joined_lines l (content (column + at) cs)) (drop_all at bytes h)
    ∙ joined_none l) ∙ e

pub entry_fits : (column at n m : ℕ) → column + n < 2 ^ 64 → at < n → m ≡ n - at
    → column + at + m < 2 ^ 64
entry_fits column at n m h i e = omega arith

-- the scalar ends at a byte, or goes on
pub plain_stops : (bytes : List ℕ) (at n : ℕ) → at < length bytes
    → stops_plain (get_or bytes at 0) (drop (at + 1) bytes) ≡ true
    → at + plain_len (drop at bytes) ≡ n → at ≡ n
plain_stops bytes at n h e i =
    let z : plain_len (drop at bytes) ≡ 0 = plain_len_more bytes at h
    ∙ ap (λ (b : Bool). cond b 0 (suc (plain_len (drop (at + 1) bytes)))) e in
    omega (arith, z, i)

pub plain_goes : (bytes : List ℕ) (at n : ℕ) → at < length bytes
    → stops_plain (get_or bytes at 0) (drop (at + 1) bytes) ≡ false
    → at + plain_len (drop at bytes) ≡ n → (at + 1) + plain_len (drop (at + 1) bytes) ≡ n
plain_goes bytes at n h e i =
    let z : plain_len (drop at bytes) ≡ suc (plain_len (drop (at + 1) bytes)) =
    plain_len_more bytes at h
    ∙ ap (λ (b : Bool). cond b 0 (suc (plain_len (drop (at + 1) bytes)))) e in
    omega (arith, z, i)

pub plain_ends : (bytes : List ℕ) (at n : ℕ) → length bytes ≤ at → at ≤ length bytes
    → at + plain_len (drop at bytes) ≡ n → length bytes ≡ n
plain_ends bytes at n h j i =
    let z : plain_len (drop at bytes) ≡ 0 = ap plain_len (drop_all at bytes h) in
    omega (arith, z, i)

-- a colon behind a quoted key stands within the line
pub key_within : (q b n m byte : ℕ) → q ≤ n → m ≡ n - q → byte ≡ 58 → ((byte ≡ 0 → ⊥) → b < m)
    → q + b + 2 ≤ n + 1
key_within q b n m byte h e f inside = let within : b < m =
    inside (λ (z : byte ≡ 0). omega (arith, f, z)) in omega (arith, h, e, within)
