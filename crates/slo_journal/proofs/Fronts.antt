-- The front of a file while a journal is made.
use Rattle.std.proofs.Common.{◌≡◌, ◌≢◌, inl, inr, ⊎_elim, append_assoc, codes, ◌≤◌, min, ◌+◌, ℕ}
use Rattle.std.proofs.Common.{◌-◌, List, [], ◌∷◌, ◌++◌, length, take, drop, get_or, replicate, refl}
use Rattle.std.proofs.Common.{sym, ap, ◌∙◌, subst, arith}
use Rattle.std.specs.declared.option.Option.{Option}
use Rattle.std.specs.Prelude.{IfSome, Some}
use Rattle.office_outside.specs.Disk.{Torn, Follows, OnlyAsRead, IsWritten, file_after_write, All}
use Rattle.office_outside.specs.Disk.{Always}
use Rattle.office_outside.specs.Senses.{DiskSenses}
use Rattle.std.proofs.lemmas.Bool.{cases_eq}
use Rattle.std.proofs.lemmas.List.{take_all}
use Rattle.slo_journal.proofs.Files.{head_same}
use Rattle.slo_journal.proofs.Pieces.{take_take}
use Rattle.office_outside.proofs.Moments.{behind, weaker}
use Rattle.slo_journal.specs.File.{Closed, Stands, four}
use Rattle.slo_limits.specs.declared.TheConstants.{MAX_MINUTE}
use Rattle.slo_journal.specs.Front.{IsHeader, Headless, HasNoHeader, IsFree, IsFront, Laid, AnyGate}
use Rattle.slo_journal.specs.Front.{Raised, header_of, NoneOrWhole}
use Rattle.slo_journal.specs.declared.header.Front.{Front}
use Rattle.slo_journal.specs.declared.header.Front.TheVariants.{Header, Shut, Bare}
use Rattle.slo_journal.proofs.Crash.{was_written, told_image, torn_keeps, written_at}

-- a torn write of the first byte leaves no header
pub torn_first : (old new : List ℕ → Type 0) → All Headless old → Follows (Torn 0 1) old new
    → All Headless new
torn_first old new all follows c image gate origin header =
    let from = follows c image in
    all from.0 from.1 gate origin
    (subst (λ (l : List ℕ). IsHeader origin (take 13 (gate ∷ l))) from.2.after header)

over_first : (d : List ℕ) → file_after_write d 0 (0 ∷ []) ≡ 0 ∷ drop 1 d
over_first d = let none : 0 - length d ≡ 0 = omega arith in
    ap (λ (k : ℕ). take 0 d ++ replicate k 0 ++ (0 ∷ []) ++ drop 1 d) none

pub cleared : (old_content new_content : Option (List ℕ)) (new : List ℕ → Type 0)
    → IsWritten 0 (0 ∷ []) old_content new_content → OnlyAsRead new_content new → All Closed new
cleared old_content new_content new written only c image =
    let w = was_written 0 (0 ∷ []) old_content new_content c written (only c image) in
    (drop 1 w.0, w.2 ∙ over_first w.0)

pub headless_has_none : (c : List ℕ) → Headless c → HasNoHeader c
headless_has_none [] none origin h = absurd (cc h.same)
headless_has_none (g ∷ c) none origin h = none g origin h

-- a file that begins with an open gate, and has no header, has none with any gate
pub headless : (g : ℕ) (c : List ℕ) → g ≢ 0 → ((origin : ℕ) → IsHeader origin (take 13 (g ∷ c)) → ⊥)
    → Headless (g ∷ c)
headless g c is_open none gate origin h = none origin (record {
  gate = g;
  is_open = is_open;
  in_range = h.in_range;
  same = ap (λ (l : List ℕ). g ∷ drop 1 l) h.same;
})

pub empty_headless : Headless []
empty_headless gate origin h = absurd (cc (ap (drop 1) h.same))

-- the closed gate stands in each image of the header's write
pub torn_closed : (n : ℕ) (old new : List ℕ → Type 0) → All Closed old → Follows (Torn 1 n) old new
    → All Closed new
torn_closed n old new all follows c image =
    let from = follows c image in
    let d = all from.0 from.1 in
    torn_keeps (0 ∷ []) d.0 c n (subst (λ (l : List ℕ). Torn 1 n l c) d.1 from.2)

pub header_laid : (h : List ℕ) (old_content new_content : Option (List ℕ))
    (old new : List ℕ → Type 0) → All Closed old → IfSome old_content old
    → IsWritten 1 h old_content new_content → OnlyAsRead new_content new → All (Laid h) new
header_laid h old_content new_content old new all read written only c image =
    let w = was_written 1 h old_content new_content c written (only c image) in
    let d = all w.0 (told_image old_content old w.0 read w.1) in (
      drop (1 + length h) (0 ∷ d.0),
      w.2 ∙ ap (λ (l : List ℕ). file_after_write l 1 h) d.1 ∙ written_at (0 ∷ []) d.0 h,
    )

torn_any : (h d c : List ℕ) → AnyGate h d → Torn 0 1 d c → AnyGate h c
torn_any h d [] a torn = absurd (omega (arith, torn.no_shorter, ap length a.2))
torn_any h d (x ∷ c) a torn = (x, a.1, ap (λ (l : List ℕ). x ∷ l) (torn.after ∙ ap (drop 1) a.2))

pub torn_first_gate : (h : List ℕ) (old new : List ℕ → Type 0) → All (AnyGate h) old
    → Follows (Torn 0 1) old new → All (AnyGate h) new
torn_first_gate h old new all follows c image = let from = follows c image in
    torn_any h from.0 c (all from.0 from.1) from.2

pub raised : (h : List ℕ) (old_content new_content : Option (List ℕ)) (old new : List ℕ → Type 0)
    → All (AnyGate h) old → IfSome old_content old → IsWritten 0 (1 ∷ []) old_content new_content
    → OnlyAsRead new_content new → All (Raised h) new
raised h old_content new_content old new all read written only c image =
    let w = was_written 0 (1 ∷ []) old_content new_content c written (only c image) in
    let d = all w.0 (told_image old_content old w.0 read w.1) in
    let none : 0 - length w.0 ≡ 0 = omega arith in (
      d.1,
      w.2 ∙ ap (λ (k : ℕ). take 0 w.0 ++ replicate k 0 ++ (1 ∷ []) ++ drop 1 w.0) none
          ∙ ap (λ (l : List ℕ). 1 ∷ drop 1 l) d.2,
    )

-- an open gate before the header makes it a journal without records
pub first_stands : (o gate : ℕ) (rest c : List ℕ) → o ≤ MAX_MINUTE → gate ≢ 0
    → c ≡ gate ∷ (header_of o ++ rest) → Stands o [] c
first_stands o gate rest c range is_open same = record {
  small = omega arith;
  parts = record {
    gate = gate;
    rest = 0 ∷ rest;
    is_open = is_open;
    in_range = range;
    header =
        same
        ∙ ap (λ (l : List ℕ). gate ∷ (codes "OSLOJRN1" ++ l)) (append_assoc (four o) (0 ∷ []) rest);
    records_are = (rest, refl);
  };
}

pub closed_has_none : (c : List ℕ) → Closed c → HasNoHeader c
closed_has_none c s o h = h.is_open (head_same _ _ _ _ (sym h.same ∙ ap (take 13) s.1)).0

pub by_first_gate : (o : ℕ) (c : List ℕ) → o ≤ MAX_MINUTE → AnyGate (header_of o) c
    → NoneOrWhole o c
by_first_gate o c range a = ⊎_elim
    (λ (shut : a.0 ≡ 0). inl (closed_has_none c (
      header_of o ++ a.1,
      a.2 ∙ ap (λ (g : ℕ). g ∷ (header_of o ++ a.1)) shut,
    )))
    (λ (is_open : a.0 ≢ 0). inr (first_stands o a.0 a.1 c range is_open a.2))
    (cases_eq a.0 0)

pub laid_any : (h : List ℕ) (images : List ℕ → Type 0) → All (Laid h) images
    → All (AnyGate h) images
laid_any h images all c image = let l = all c image in (0, l.0, l.1)

pub by_header : (o : ℕ) (h c : List ℕ) → o ≤ MAX_MINUTE → h ≡ header_of o → AnyGate h c
    → NoneOrWhole o c
by_header o h c range same a = by_first_gate o c range (subst (λ (l : List ℕ). AnyGate l c) same a)

pub raised_stands : (o : ℕ) (h : List ℕ) (images : List ℕ → Type 0) → o ≤ MAX_MINUTE
    → h ≡ header_of o → All (Raised h) images → All (Stands o []) images
raised_stands o h images range same all c image =
    let r = subst (λ (l : List ℕ). Raised l c) same (all c image) in
    first_stands o 1 r.0 c range (λ e. absurd (cc e)) r.1

pub founding : {D : Type 0} {S : DiskSenses D} {d0 d1 d2 : D} (o : ℕ) (h : List ℕ) → o ≤ MAX_MINUTE
    → h ≡ header_of o → Always S d0 d1 Closed → Always S d1 d2 (AnyGate h)
    → Always S d0 d2 (NoneOrWhole o)
founding o h range same first second =
    behind first (weaker second (λ c a. by_header o h c range same a))
    (λ c s. inl (closed_has_none c s))

-- what a sync leaves of a file whose front was read
pub front_of_images : (front : Front) (content : Option (List ℕ)) (images : List ℕ → Type 0)
    → ((o : ℕ) → front ≡ Header o → ⊥)
    → ((file : List ℕ) → content ≡ Some file → IsFront front file) → OnlyAsRead content images
    → All (IsFree front) images
front_of_images (Header o) content images none is only c image = absurd (none o refl)
front_of_images Shut content images none is only c image = is c (only c image)
front_of_images Bare content images none is only c image = is c (only c image)

pub free_none : (front : Front) (c : List ℕ) → IsFree front c → HasNoHeader c
free_none (Header o) c free = absurd free
free_none Shut c free = closed_has_none c free
free_none Bare c free = headless_has_none c free

pub front_none : (front : Front) (c : List ℕ) → ((o : ℕ) → front ≡ Header o → ⊥) → IsFront front c
    → HasNoHeader c
front_none (Header o) c none is = absurd (none o refl)
front_none Shut c none is = closed_has_none c is
front_none Bare c none is = headless_has_none c is

pub bare_headless : (front : Front) (c : List ℕ) → (front ≡ Shut → ⊥) → IsFree front c → Headless c
bare_headless (Header o) c not_shut free = absurd free
bare_headless Shut c not_shut free = absurd (not_shut refl)
bare_headless Bare c not_shut free = free

pub shut_closed : (front : Front) (c : List ℕ) → front ≡ Shut → IsFree front c → Closed c
shut_closed front c shut free = subst (λ f. IsFree f c) shut free

thirteen_of : (gate : ℕ) (c : List ℕ)
    → take 13 (gate ∷ drop 1 c) ≡ take 13 (gate ∷ drop 1 (take 13 c))
thirteen_of gate [] = refl
thirteen_of gate (x ∷ c) = ap (λ (l : List ℕ). gate ∷ l) (sym (take_take 12 12 c))

-- what is so of the first bytes is so of the file
pub front_of_file : (front : Front) (c : List ℕ) → IsFront front (take 13 c) → IsFront front c
front_of_file (Header o) c is = subst (IsHeader o) (take_take 13 13 c) is
front_of_file Shut [] is = is
front_of_file Shut (x ∷ c) is = (c, ap (λ (g : ℕ). g ∷ c) (head_same _ _ _ _ is.1).0)
front_of_file Bare c is =
    λ gate origin header. is gate origin (subst (IsHeader origin) (thirteen_of gate c) header)

-- where the first byte isn't 0 and no header is read, there is none with any gate
pub front_bare : (bytes : List ℕ) → length bytes ≤ 13 → get_or bytes 0 0 ≢ 0
    → ((origin : ℕ) → IsHeader origin bytes → ⊥) → Headless bytes
front_bare [] few is_open none = empty_headless
front_bare (x ∷ bytes) few is_open none =
    headless x bytes is_open (λ o h. none o (subst (IsHeader o) (take_all 13 (x ∷ bytes) few) h))
