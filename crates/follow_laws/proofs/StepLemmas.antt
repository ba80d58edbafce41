-- One step of following over what is true.
use Rattle.std.proofs.Common.{◌≡◌, ℕ, suc, ◌+◌, ◌≤◌, Bool, true, false, nat_lt, List, []}
use Rattle.std.proofs.Common.{length, refl, sym, ap, ◌∙◌, subst, arith, drop, Ok}
use Rattle.std.proofs.Common.{Err}
use Rattle.std.proofs.Common.{Some, None, Option, Result}
use Rattle.std.specs.Prelude.{slice_get}
use Rattle.std.proofs.lemmas.Bool.{ltb-false}
use Rattle.record_form.specs.declared.Entry.{Entry}
use Rattle.record_form.specs.Records.{record_of}
use Rattle.office_history.specs.History.{Office, with_entry}
use Rattle.office_history.specs.Legal.{MayFollow}
use Rattle.follow_terms.specs.declared.FollowEnd.{FollowEnd}
use Rattle.follow_terms.specs.declared.FollowEnd.TheVariants as ends
use Rattle.follow_terms.specs.Pieces.{head_read, length_read, record_read, behind, end_where}
use Rattle.follow_terms.specs.Follows.{Between, Inside, Follows, done, outside, head_ends}
use Rattle.follow_terms.specs.Follows.{head_passes, feed_ends, length_ends, record_ends, differs}
use Rattle.follow_terms.specs.Follows.{is_held, illegal, disk_ends, taken, IsOutside, read_fault}
use Rattle.follow_terms.specs.Follows.{no_memory, IsDiskEnd, journal_full, disk_fault}
use Rattle.follow_laws.specs.Laws.{IsHarmless}
use Rattle.follow_laws.proofs.ReadLemmas.{IsPassed, true_head}

-- the office stays, and the end is one that true feeds can have, but not the last
pub record Stays (o last : Office) (end : FollowEnd) : Type 0 where
  pub same : last ≡ o
  pub harmless : IsHarmless end
  pub undone : end ≡ ends.Done → ⊥

outside_stays : (o : Office) (end : FollowEnd) → IsOutside end → Stays o o end
outside_stays o _ read_fault = record { same = refl; harmless = tt; undone = λ e. cc e }
outside_stays o _ no_memory = record { same = refl; harmless = tt; undone = λ e. cc e }

disk_stays : (o : Office) (end : FollowEnd) → IsDiskEnd end → Stays o o end
disk_stays o _ journal_full = record { same = refl; harmless = tt; undone = λ e. cc e }
disk_stays o _ disk_fault = record { same = refl; harmless = tt; undone = λ e. cc e }

large_stays : (o : Office) (end : FollowEnd) → end ≡ ends.TooLarge → Stays o o end
large_stays o end is = subst (Stays o o) (sym is)
    (record { same = refl; harmless = tt; undone = λ e. cc e })

gap_stays : (o : Office) (at : ℕ) (end : FollowEnd) → end ≡ ends.Gap at → Stays o o end
gap_stays o at end is = subst (Stays o o) (sym is)
    (record { same = refl; harmless = tt; undone = λ e. cc e })

err_is : {A : Type 0} (a b : FollowEnd) → ◌≡◌ {A = Result A FollowEnd} (Err a) (Err b) → b ≡ a
err_is a b e = cc e

ok_is : {A : Type 0} (x y : A) → ◌≡◌ {A = Result A FollowEnd} (Ok x) (Ok y) → y ≡ x
ok_is x y e = cc e

-- what is behind a piece that is whole or too much
too_large : {A : Type 0} (piece : Option FollowEnd) (x : A) (end : FollowEnd) → IsPassed piece
    → behind piece (Ok x) ≡ Err end → end ≡ ends.TooLarge
too_large None x end is h = absurd cc
too_large {A = A} (Some f) x end is h = is end (ap Some (sym (err_is {A = A} f end h)))

read_is : {A : Type 0} (piece : Option FollowEnd) (x y : A) → behind piece (Ok x) ≡ Ok y → y ≡ x
read_is None x y h = ok_is x y h
read_is (Some f) x y h = absurd cc

pub ends_there : (o : Office) (at : ℕ) (left : List ℕ) (last : Office) (end : FollowEnd)
    → left ≡ [] → Follows Between o at left last end → (last ≡ o) × IsHarmless end
ends_there o at left _ _ empty (done e) = (refl, tt)
ends_there o at left _ end empty (outside is) = let s = outside_stays o end is in (refl, s.harmless)
ends_there o at left _ end empty (head_ends some e) = absurd (omega (arith, some, ap length empty))
ends_there o at left last end empty (head_passes some e f) =
    absurd (omega (arith, some, ap length empty))

pub data Heads (o : Office) (at : ℕ) (left : List ℕ) (first count : ℕ) (last : Office)
    (end : FollowEnd) : Type 0 where
  stops : Stays o last end → Heads o at left first count last end
  goes_in : first ≤ length o.history → Follows (Inside count first) o (at + 20) (drop 20 left) last
      end
      → Heads o at left first count last end

head_stops : (piece : Option FollowEnd) (gap : Bool) (o : Office) (first count : ℕ)
    (end : FollowEnd) → IsPassed piece
    → behind {A = ℕ × ℕ} piece (behind (end_where gap (ends.Gap first)) (Ok (first, count)))
    ≡ Err end
    → Stays o o end
head_stops (Some f) gap o first count end is h =
    large_stays o end (is end (ap Some (sym (err_is {A = ℕ × ℕ} f end h))))
head_stops None true o first count end is h =
    gap_stays o first end (err_is {A = ℕ × ℕ} (ends.Gap first) end h)
head_stops None false o first count end is h = absurd cc

head_goes : (piece : Option FollowEnd) (gap : Bool) (first count f c : ℕ)
    → behind {A = ℕ × ℕ} piece (behind (end_where gap (ends.Gap first)) (Ok (first, count)))
    ≡ Ok (f, c)
    → (gap ≡ false) × ◌≡◌ {A = ℕ × ℕ} (f, c) (first, count)
head_goes (Some x) gap first count f c h = absurd cc
head_goes None true first count f c h = absurd cc
head_goes None false first count f c h = (refl, ok_is (first, count) (f, c) h)

pub heads : (piece : Option FollowEnd) (o : Office) (at : ℕ) (left : List ℕ) (first count : ℕ)
    (last : Office) (end : FollowEnd) → 1 ≤ length left
    → head_read o at left ≡ true_head piece o first count → IsPassed piece
    → Follows Between o at left last end → Heads o at left first count last end
heads piece o at left first count _ _ some is whole (done e) =
    absurd (omega (arith, some, ap length e))
heads piece o at left first count _ end some is whole (outside e) = stops (outside_stays o end e)
heads piece o at left first count _ end some is whole (head_ends any e) =
    stops (head_stops piece (nat_lt (length o.history) first) o first count end whole (sym is ∙ e))
heads piece o at left first count last end some is whole
    (head_passes {first = f} {count = c} any e go) =
    let same = head_goes piece (nat_lt (length o.history) first) first count f c (sym is ∙ e) in
    goes_in (ltb-false (length o.history) first same.0)
    (subst (λ (p : ℕ × ℕ). Follows (Inside p.1 p.0) o (at + 20) (drop 20 left) last end) same.1 go)

pub data Overs (o : Office) (at : ℕ) (left : List ℕ) (last : Office) (end : FollowEnd) : Type 0
  where
    no_more : Stays o last end → Overs o at left last end
    next : Follows Between o at left last end → Overs o at left last end

pub after_feed : (o : Office) (at : ℕ) (left : List ℕ) (position : ℕ) (last : Office)
    (end : FollowEnd) → Follows (Inside 0 position) o at left last end → Overs o at left last end
after_feed o at left position last end (feed_ends f) = next f
after_feed o at left position _ end (outside e) = no_more (outside_stays o end e)

pub data Steps (count position : ℕ) (o : Office) (at : ℕ) (left : List ℕ) (size : ℕ) (e : Entry)
    (last : Office) (end : FollowEnd) : Type 0 where
  rests : Stays o last end → Steps count position o at left size e last end
  unlike : (held : Entry) → slice_get o.history position ≡ Some held
      → (record_of held ≡ record_of e → ⊥) → Steps count position o at left size e last end
  goes : (held : Entry) → slice_get o.history position ≡ Some held
      → Follows (Inside count (suc position)) o (at + 4 + size) (drop size (drop 4 left)) last end
      → Steps count position o at left size e last end
  unfit : position ≡ length o.history → (MayFollow o e → ⊥)
      → Steps count position o at left size e last end
  takes : position ≡ length o.history
      → Follows (Inside count (suc position)) (with_entry o e) (at + 4 + size)
      (drop size (drop 4 left)) last end
      → Steps count position o at left size e last end

pub steps : (one two : Option FollowEnd) (count position : ℕ) (o : Office) (at : ℕ) (left : List ℕ)
    (size : ℕ) (e : Entry) (last : Office) (end : FollowEnd)
    → length_read at left ≡ behind one (Ok size) → IsPassed one
    → record_read at size (drop 4 left) ≡ behind two (Ok e) → IsPassed two
    → Follows (Inside (suc count) position) o at left last end
    → Steps count position o at left size e last end
steps one two count position o at left size e _ end is whole is2 whole2 (outside out) =
    rests (outside_stays o end out)
steps one two count position o at left size e _ end is whole is2 whole2 (length_ends h) =
    rests (large_stays o end (too_large one size end whole (sym is ∙ h)))
steps one two count position o at left size e _ end is whole is2 whole2
    (record_ends {size = n} h k) =
    let same = read_is one size n (sym is ∙ h) in
    let k2 = subst (λ n. record_read at n (drop 4 left) ≡ Err end) same k in
    rests (large_stays o end (too_large two e end whole2 (sym is2 ∙ k2)))
steps one two count position o at left size e _ _ is whole is2 whole2
    (differs {size = n} {e = x} {held = held} h k s d) =
    let same = read_is one size n (sym is ∙ h) in
    let k2 = subst (λ n. record_read at n (drop 4 left) ≡ Ok x) same k in
    let entry = read_is two e x (sym is2 ∙ k2) in
    unlike held s (subst (λ (x : Entry). record_of held ≡ record_of x → ⊥) entry d)
steps one two count position o at left size e last end is whole is2 whole2
    (is_held {size = n} {e = x} {held = held} h k s d f) =
    let same = read_is one size n (sym is ∙ h) in
    goes held s (subst (λ (n : ℕ). Follows (Inside count (suc position)) o (at + 4 + n)
    (drop n (drop 4 left)) last end) same f)
steps one two count position o at left size e _ _ is whole is2 whole2
    (illegal {size = n} {e = x} h k s d) =
    let same = read_is one size n (sym is ∙ h) in
    let k2 = subst (λ n. record_read at n (drop 4 left) ≡ Ok x) same k in
    let entry = read_is two e x (sym is2 ∙ k2) in
    unfit s (subst (λ (x : Entry). MayFollow o x → ⊥) entry d)
steps one two count position o at left size e _ end is whole is2 whole2
    (disk_ends h k s may d) = rests (disk_stays o end d)
steps one two count position o at left size e last end is whole is2 whole2
    (taken {size = n} {e = x} h k s may f) =
    let same = read_is one size n (sym is ∙ h) in
    let k2 = subst (λ n. record_read at n (drop 4 left) ≡ Ok x) same k in
    let entry = read_is two e x (sym is2 ∙ k2) in
    takes s (subst (λ (p : ℕ × Entry). Follows (Inside count (suc position)) (with_entry o p.1)
    (at + 4 + p.0) (drop p.0 (drop 4 left)) last end) (λ i. (same i, entry i)) f)
