-- What was held stays.
use Rattle.std.proofs.Common.{◌≡◌, ℕ, suc, ◌+◌, List, [], ◌∷◌, ◌++◌, length, refl, sym, ◌∙◌}
use Rattle.std.proofs.Common.{subst}
use Rattle.std.proofs.Common.{append-nil, append_assoc, arith, drop, take, length-append, Ok, Some}
use Rattle.record_form.specs.declared.Entry.{Entry}
use Rattle.record_form.specs.Records.{entry_of}
use Rattle.office_history.specs.History.{Office}
use Rattle.follow_terms.specs.Pieces.{head_read, length_read, record_read}
use Rattle.follow_terms.specs.Follows.{Place, Between, Inside, done, outside, head_ends}
use Rattle.follow_terms.specs.Follows.{head_passes, feed_ends, length_ends, record_ends, differs}
use Rattle.follow_terms.specs.Follows.{is_held, illegal, disk_ends, taken, Says, from_head}
use Rattle.follow_terms.specs.Follows.{from_next}
use Rattle.follow_terms.specs.Follows.{is_here, from_later}
use Rattle.follow_laws.specs.Laws.{HasKept, KeepsWhatWasHeld, AreSaid}
use Rattle.follow_laws.proofs.ReadLemmas.{head_marked, head_own, head_says, length_says}
use Rattle.follow_laws.proofs.ReadLemmas.{record_says}

-- what is said inside a feed is said before its head
headed : (o : Office) (at : ℕ) (left : List ℕ) (first count position : ℕ) (e : Entry)
    → head_read o at left ≡ Ok (first, count)
    → Says o.origin (Inside count first) (drop 20 left) position e
    → Says o.origin Between left position e
headed o at left first count position e h said =
    from_head (head_marked o at left first count h) (head_own o at left first count h)
    (subst (λ (p : ℕ × ℕ). Says o.origin (Inside p.1 p.0) (drop 20 left) position e)
    (sym (head_says o at left first count h)) said)

-- and what is said behind an entry is said before it
later : (origin at : ℕ) (left : List ℕ) (size count here position : ℕ) (e : Entry)
    → length_read at left ≡ Ok size
    → Says origin (Inside count (suc here)) (drop size (drop 4 left)) position e
    → Says origin (Inside (suc count) here) left position e
later origin at left size count here position e h said = from_later (subst
    (λ (n : ℕ). Says origin (Inside count (suc here)) (drop n (drop 4 left)) position e)
    (sym (length_says at left size h)) said)

-- an entry that is read is said
here : (origin at : ℕ) (left : List ℕ) (size count position : ℕ) (e : Entry)
    → length_read at left ≡ Ok size → record_read at size (drop 4 left) ≡ Ok e
    → Says origin (Inside (suc count) position) left position e
here origin at left size count position e h k = is_here (subst
    (λ (n : ℕ). entry_of (take n (drop 4 left)) ≡ Some e)
    (sym (length_says at left size h)) (record_says at size (drop 4 left) e k))

-- nothing was taken
none : (place : Place) (bytes : List ℕ) (o : Office) → HasKept place bytes o o
none place bytes o = record {
  more = [];
  origin_is = refl;
  history_is = sym (append-nil o.history);
  said = tt;
}

wider : (origin : ℕ) (one other : Place) (left bytes : List ℕ)
    → ((position : ℕ) (e : Entry) → Says origin one left position e
    → Says origin other bytes position e)
    → (position : ℕ) (es : List Entry) → AreSaid origin one left position es
    → AreSaid origin other bytes position es
wider origin one other left bytes go position [] said = tt
wider origin one other left bytes go position (e ∷ es) said =
    (go position e said.0, wider origin one other left bytes go (suc position) es said.1)

-- what was kept from a later place on was kept from here on
through : (one other : Place) (left bytes : List ℕ) (o last : Office)
    → ((position : ℕ) (e : Entry) → Says o.origin one left position e
    → Says o.origin other bytes position e)
    → HasKept one left o last → HasKept other bytes o last
through one other left bytes o last go kept = record {
  more = kept.more;
  origin_is = kept.origin_is;
  history_is = kept.history_is;
  said = wider o.origin one other left bytes go (length o.history) kept.more kept.said;
}

pub keeps : KeepsWhatWasHeld
keeps _ o at bytes _ _ (done e) = none Between bytes o
keeps place o at bytes _ end (outside e) = none place bytes o
keeps _ o at bytes _ end (head_ends some e) = none Between bytes o
keeps _ o at bytes last end (head_passes {first = first} {count = count} some e f) =
    through (Inside count first) Between (drop 20 bytes) bytes o last
    (λ position x said. headed o at bytes first count position x e said)
    (keeps (Inside count first) o (at + 20) (drop 20 bytes) last end f)
keeps _ o at bytes last end (feed_ends {position = p} f) =
    through Between (Inside 0 p) bytes bytes o last (λ position x said. from_next said)
    (keeps Between o at bytes last end f)
keeps _ o at bytes _ end (length_ends {count = c} {position = p} e) = none (Inside (suc c) p) bytes
    o
keeps _ o at bytes _ end (record_ends {count = c} {position = p} e k) =
    none (Inside (suc c) p) bytes o
keeps _ o at bytes _ _ (differs {count = c} {position = p} e k s d) =
    none (Inside (suc c) p) bytes o
keeps _ o at bytes last end (is_held {count = c} {position = p} {size = n} e k s d f) =
    through (Inside c (suc p)) (Inside (suc c) p) (drop n (drop 4 bytes)) bytes o last
    (λ position x said. later o.origin at bytes n c p position x e said)
    (keeps (Inside c (suc p)) o (at + 4 + n) (drop n (drop 4 bytes)) last end f)
keeps _ o at bytes _ _ (illegal {count = c} {position = p} e k s d) =
    none (Inside (suc c) p) bytes o
keeps _ o at bytes _ end (disk_ends {count = c} {position = p} e k s m d) =
    none (Inside (suc c) p) bytes o
keeps _ o at bytes last end (taken {count = c} {position = p} {size = n} {e = x} e k s m f) =
    let after : Office = record { origin = o.origin; history = o.history ++ x ∷ [] } in
    let kept = through (Inside c (suc p)) (Inside (suc c) p) (drop n (drop 4 bytes)) bytes after
    last
    (λ position y said. later o.origin at bytes n c p position y e said)
    (keeps (Inside c (suc p)) after (at + 4 + n) (drop n (drop 4 bytes)) last end f) in
    let first_said : Says o.origin (Inside (suc c) p) bytes p x = here o.origin at bytes n c p x e k
    in
    let counted : length (o.history ++ x ∷ []) ≡ suc (length o.history) =
    length-append o.history (x ∷ []) ∙ omega arith in
    record {
      more = x ∷ kept.more;
      origin_is = kept.origin_is;
      history_is = kept.history_is ∙ append_assoc o.history (x ∷ []) kept.more;
      said = (
        subst (λ q. Says o.origin (Inside (suc c) p) bytes q x) s first_said,
        subst (λ q. AreSaid o.origin (Inside (suc c) p) bytes q kept.more) counted kept.said,
      );
    }
