-- What the calls of a disk in memory leave.
use Rattle.std.proofs.Common.{◌≡◌, if◌then◌else◌, max, inl, inr, ◌⊎◌, ⊎_elim, ◌≤◌, ◌<◌, ℕ, zero}
use Rattle.std.proofs.Common.{suc, ◌+◌, ◌-◌, min, Bool, true, false, List, [], ◌∷◌, ◌++◌, length}
use Rattle.std.proofs.Common.{take, drop, replicate, Vec, Global, refl, sym, ◌∙◌, ap, subst, arith}
use Rattle.std.proofs.Common.{append_assoc, length-append}
use Rattle.std.proofs.lemmas.List.{drop-drop, take_at, take_all, take-append-le, drop_at, take_min}
use Rattle.std.proofs.lemmas.List.{take-replicate, append-nil, drop_all, length-take, length-drop}
use Rattle.std.proofs.lemmas.List.{length-replicate}
use Rattle.std.proofs.Math.Nat.{eq-or-lt_of_le}
use Rattle.std.proofs.lemmas.List.Sums.{fold-append}
use Rattle.office_outside.specs.Disk.{Torn, Follows, Elapses, file_after_write}
use Rattle.office_outside.specs.DiskCalls.{State, after, at_first, IsImage, LeftSince, Left}
use Rattle.office_outside.specs.DiskCalls.{Reaches, state_after}
use Rattle.office_outside.specs.Senses.{DiskSenses}
use Rattle.office_outside.specs.declared.memory_disk.DiskCall.{DiskCall}
use Rattle.office_outside.specs.declared.memory_disk.DiskCall.TheVariants.{Looked, Wrote, Synced}

module _ (old : List ℕ) (at : ℕ) (bytes : List ℕ) where
  front : List ℕ
  front = take at old ++ replicate (at - length old) 0 ++ bytes

  rest : List ℕ
  rest = drop (at + length bytes) old

  length-front : length (take at old ++ replicate (at - length old) 0 ++ bytes) ≡ at + length bytes
  length-front = omega (
    arith,
    length-append (take at old ++ replicate (at - length old) 0) bytes,
    length-append (take at old) (replicate (at - length old) 0),
    length-take at old,
    length-replicate {A = ℕ} (at - length old) 0,
  )

  length-written_over : length (file_after_write old at bytes)
      ≡ at + length bytes + (length old - (at + length bytes))
  length-written_over = omega (
    arith,
    length-front,
    length-append
        (take at old ++ replicate (at - length old) 0 ++ bytes) (drop (at + length bytes) old),
    length-drop (at + length bytes) old,
  )

  -- a write that is done is one that a crash cuts short nowhere
  pub torn_written : Torn at (length bytes) old (file_after_write old at bytes)
  torn_written = record {
    before =
        ap (λ (l : List ℕ). take (min at (length old)) l) (append_assoc (take at old
        ++ replicate (at - length old) 0) bytes (drop (at + length bytes) old) ∙ append_assoc
        (take at old) (replicate (at - length old) 0) (bytes ++ drop (at + length bytes) old))
        ∙ take_at (take at old) (replicate (at - length old) 0
        ++ (bytes ++ drop (at + length bytes) old)) (min at (length old)) (length-take at old);
    after = drop_at (take at old ++ replicate (at - length old) 0 ++ bytes)
        (drop (at + length bytes) old) (at + length bytes) length-front;
    no_shorter = omega (arith, length-written_over);
    no_longer = omega (arith, length-written_over);
  }

-- nor is one that changes nothing
pub torn_same : (old : List ℕ) (at n : ℕ) → Torn at n old old
torn_same old at n = record {
  before = take_min at old;
  after = refl;
  no_shorter = omega arith;
  no_longer = omega arith;
}

follows_after : (s : State) (at : ℕ) (v : Vec ℕ Global) (done : Bool)
    → Follows (Torn at (length v.items)) (IsImage s) (IsImage (after s (Wrote at v done)))
follows_after s at v true c (inl e) = (
  s.reads,
  inl refl,
  subst (Torn at (length v.items) s.reads) (sym e) (torn_written s.reads at v.items),
)
follows_after s at v true c (inr r) = (r.0, inr r.1, r.2)
follows_after s at v false c (inl e) = (
  s.reads,
  inl refl,
  subst (Torn at (length v.items) s.reads) (sym e) (torn_same s.reads at (length v.items)),
)
follows_after s at v false c (inr r) = (r.0, inr r.1, r.2)

-- an image after a write is one from before it, with the write cut short
pub follows_wrote : (first : List ℕ) (calls later : List DiskCall) (at : ℕ) (v : Vec ℕ Global)
    (done : Bool) (piece : List ℕ) → v.items ≡ piece → later ≡ calls ++ Wrote at v done ∷ []
    → Follows (Torn at (length piece)) (IsImage (state_after first calls))
    (IsImage (state_after first later))
follows_wrote first calls later at v done piece same is c image =
    let now : state_after first later ≡ after (state_after first calls) (Wrote at v done) =
    ap (state_after first) is ∙ fold-append after (at_first first) calls (Wrote at v done ∷ []) in
    subst (λ (p : List ℕ). (d : List ℕ) × IsImage (state_after first calls) d
    × Torn at (length p) d c) same
    (follows_after (state_after first calls) at v done c
    (subst (λ (s : State). IsImage s c) now image))

pub follows_either : (first : List ℕ) (calls later : List DiskCall) (at : ℕ) (done : Bool)
    (piece : List ℕ)
    → (later ≡ calls) ⊎ ((v : Vec ℕ Global) × (v.items ≡ piece)
    × (later ≡ calls ++ Wrote at v done ∷ []))
    → Follows (Torn at (length piece)) (IsImage (state_after first calls))
    (IsImage (state_after first later))
follows_either first calls later at done piece (inl same) c image = (
  c,
  subst (λ (l : List DiskCall). IsImage (state_after first l) c) same image,
  torn_same c at (length piece),
)
follows_either first calls later at done piece (inr more) c image =
    follows_wrote first calls later at more.0 done piece more.1 more.2 c image

take-append : (n : ℕ) (xs ys : List ℕ) → take n (xs ++ ys) ≡ take n xs ++ take (n - length xs) ys
take-append zero [] ys = refl
take-append (suc n) [] ys = let e : suc n ≡ suc n - zero = omega arith in ap (λ k. take k ys) e
take-append zero (x ∷ xs) ys = let e : zero - length (x ∷ xs) ≡ zero = omega arith in
    sym (ap (λ k. take k ys) e)
take-append (suc n) (x ∷ xs) ys = let e : suc n - suc (length xs) ≡ n - length xs = omega arith in
    ap (λ (l : List ℕ). x ∷ l) (take-append n xs ys ∙ ap (λ k. take n xs ++ take k ys) (sym e))

drop-append : (n : ℕ) (xs ys : List ℕ) → drop n (xs ++ ys) ≡ drop n xs ++ drop (n - length xs) ys
drop-append zero [] ys = refl
drop-append (suc n) [] ys = let e : suc n ≡ suc n - zero = omega arith in ap (λ k. drop k ys) e
drop-append zero (x ∷ xs) ys = let e : zero - length (x ∷ xs) ≡ zero = omega arith in
    sym (ap (λ k. (x ∷ xs) ++ drop k ys) e)
drop-append (suc n) (x ∷ xs) ys = let e : suc n - suc (length xs) ≡ n - length xs = omega arith in
    drop-append n xs ys ∙ ap (λ k. drop n xs ++ drop k ys) (sym e)

-- zeros up to the end, and then the piece in its place, make the write
pub padded_write : (old : List ℕ) (at : ℕ) (piece : List ℕ) (end : ℕ) → end ≡ at + length piece
    → (padded : List ℕ) → padded ≡ old ++ replicate (end - length old) 0
    → (new : List ℕ) → new ≡ take at padded ++ piece ++ drop (at + length piece) padded
    → new ≡ file_after_write old at piece
padded_write old at piece end ends padded pads new is =
    let zeros : List ℕ = replicate (end - length old) 0 in
    let front : take at padded ≡ take at old ++ replicate (at - length old) 0 = ap (take at) pads
    ∙ take-append at old zeros ∙ ap (λ (l : List ℕ). take at old ++ l)
    (take-replicate (at - length old) (end - length old) 0 (omega arith)) in
    let none : drop (at + length piece - length old) zeros ≡ [] = drop_all (at + length piece
    - length old) zeros (omega (arith, length-replicate {A = ℕ} (end - length old) 0)) in
    let back : drop (at + length piece) padded ≡ drop (at + length piece) old =
    ap (drop (at + length piece)) pads ∙ drop-append (at + length piece) old zeros
    ∙ ap (λ (l : List ℕ). drop (at + length piece) old ++ l) none
    ∙ append-nil (drop (at + length piece) old) in
    is ∙ ap (λ (l : List ℕ). l ++ piece ++ drop (at + length piece) padded) front
    ∙ ap (λ (l : List ℕ). take at old ++ replicate (at - length old) 0 ++ piece ++ l) back

-- the calls are as before, or there is one more
abbrev pub OneMore : List DiskCall → List DiskCall → Type 0
OneMore calls later = (later ≡ calls) ⊎ ((call : DiskCall) × (later ≡ calls ++ call ∷ []))

-- time goes on, seen by what stands in for a disk
pub record Passes (before now : ℕ) (past since : ℕ → List ℕ → Type 0) (images : List ℕ → Type 0)
    : Type 0 where
  pub later : before ≤ now
  pub nothing_else : (t : ℕ) (c : List ℕ) → t ≤ before → since t c → past t c ⊎ images c

pub elapses : {D : Type 0} (S : DiskSenses D) (old new : D)
    → Passes (S.moment old) (S.moment new) (S.images_since old) (S.images_since new) (S.images new)
    → Elapses S old new
elapses S old new p = record { later = p.later; nothing_else = p.nothing_else }

elapses_same : (first : List ℕ) (calls : List DiskCall) → Passes (length calls) (length calls)
    (LeftSince first calls) (LeftSince first calls) (IsImage (state_after first calls))
elapses_same first calls = record { later = omega arith; nothing_else = λ t c le left. inl left }

elapses_push : (first : List ℕ) (calls : List DiskCall) (call : DiskCall)
    → Passes (length calls) (length (calls ++ call ∷ [])) (LeftSince first calls)
    (LeftSince first (calls ++ call ∷ [])) (IsImage (state_after first (calls ++ call ∷ [])))
elapses_push first calls call = record {
  later = omega (arith, length-append calls (call ∷ []));
  nothing_else = λ t c le left. ⊎_elim
      (λ (is : left.at ≡ length (calls ++ call ∷ [])).
      inr (subst (λ (l : List DiskCall). IsImage (state_after first l) c)
      (take_all left.at (calls ++ call ∷ []) (omega (arith, is))) left.image))
      (λ (less : left.at < length (calls ++ call ∷ [])).
      let before : left.at ≤ length calls = omega (arith, less, length-append calls (call ∷ [])) in
      inl (record {
        at = left.at;
        not_before = left.not_before;
        happened = before;
        image = subst (λ (l : List DiskCall). IsImage (state_after first l) c)
            (take-append-le left.at calls (call ∷ []) before) left.image;
      }))
      (eq-or-lt_of_le left.happened);
}

-- time goes on by a call
pub elapses_more : (first : List ℕ) (calls later : List DiskCall) → OneMore calls later
    → Passes (length calls) (length later) (LeftSince first calls) (LeftSince first later)
    (IsImage (state_after first later))
elapses_more first calls later (inl same) =
    subst (λ (l : List DiskCall). Passes (length calls) (length l) (LeftSince first calls)
    (LeftSince first l) (IsImage (state_after first l))) (sym same) (elapses_same first calls)
elapses_more first calls later (inr more) =
    subst (λ (l : List DiskCall). Passes (length calls) (length l)
    (LeftSince first calls) (LeftSince first l) (IsImage (state_after first l))) (sym more.1)
    (elapses_push first calls more.0)

pub one_write : (calls later : List DiskCall) (at : ℕ) (done : Bool) (piece : List ℕ)
    → (later ≡ calls)
    ⊎ ((v : Vec ℕ Global) × (v.items ≡ piece) × (later ≡ calls ++ Wrote at v done ∷ []))
    → OneMore calls later
one_write calls later at done piece (inl same) = inl same
one_write calls later at done piece (inr more) = inr (Wrote at more.0 done, more.2)

-- a call that changes no bytes
pub one_call : (calls later : List DiskCall) (call : DiskCall)
    → (later ≡ calls) ⊎ (later ≡ calls ++ call ∷ []) → OneMore calls later
one_call calls later call (inl same) = inl same
one_call calls later call (inr more) = inr (call, more)

-- a file that grows by what the write may reach
pub torn_longer : (old more : List ℕ) (at n : ℕ) → length more ≤ at + n - length old
    → Torn at n old (old ++ more)
torn_longer old more at n few = record {
  before = take-append-le (min at (length old)) old more (omega arith) ∙ take_min at old;
  after = drop-append (at + n) old more
      ∙ ap (λ (l : List ℕ). drop (at + n) old ++ l) (drop_all (at + n - length old) more few)
      ∙ append-nil (drop (at + n) old);
  no_shorter = omega (arith, length-append old more);
  no_longer = omega (arith, length-append old more, few);
}

-- bytes put into the range of the write
pub torn_put : (old mid new piece : List ℕ) (at n : ℕ) → at ≤ length old → length piece ≤ n
    → at + length piece ≤ length mid → Torn at n old mid
    → new ≡ take at mid ++ piece ++ drop (at + length piece) mid → Torn at n old new
torn_put old mid new piece at n within few fits t is =
    let front : length (take at mid) ≡ at = omega (arith, length-take at mid, fits) in
    let size : length (take at mid ++ piece) ≡ at + length piece =
    omega (arith, front, length-append (take at mid) piece) in
    let long : length new ≡ length mid = ap length is ∙ omega (
      arith,
      size,
      fits,
      length-append (take at mid ++ piece) (drop (at + length piece) mid),
      length-drop (at + length piece) mid,
    ) in
    let m : min at (length old) ≡ at = omega (arith, within) in
    let sum : at + n ≡ (at + length piece) + (n - length piece) = omega (arith, few) in
    let past : drop (at + length piece) new ≡ drop (at + length piece) mid =
    ap (drop (at + length piece)) is
    ∙ drop_at (take at mid ++ piece) (drop (at + length piece) mid) (at + length piece) size in
    record {
      before = ap (λ k. take k new) m
          ∙ ap (take at) (is ∙ append_assoc (take at mid) piece (drop (at + length piece) mid))
          ∙ take_at (take at mid) (piece ++ drop (at + length piece) mid) at front
          ∙ sym (ap (λ k. take k mid) m) ∙ t.before;
      after = ap (λ (k : ℕ). drop k new) sum
          ∙ sym (drop-drop (n - length piece) (at + length piece) new)
          ∙ ap (drop (n - length piece)) past ∙ drop-drop (n - length piece) (at + length piece) mid
          ∙ sym (ap (λ (k : ℕ). drop k mid) sum) ∙ t.after;
      no_shorter = omega (arith, long, t.no_shorter);
      no_longer = omega (arith, long, t.no_longer);
    }

left_wrote : (s : State) (at : ℕ) (v : Vec ℕ Global) (done : Bool)
    (reads left new_reads new_left : List ℕ) → Left s reads left
    → new_reads ≡ (if done then file_after_write reads at v.items else reads)
    → Torn at (length v.items) left new_left → Left (after s (Wrote at v done)) new_reads new_left
left_wrote s at v true reads left new_reads new_left l is torn = record {
  same = is ∙ ap (λ (r : List ℕ). file_after_write r at v.items) l.same;
  reached = (left, l.reached, torn);
}
left_wrote s at v false reads left new_reads new_left l is torn = record {
  same = is ∙ l.same;
  reached = (left, l.reached, torn);
}

pub left_after : (s : State) (call : DiskCall) (at : ℕ) (v : Vec ℕ Global) (done : Bool)
    (piece reads left new_reads new_left : List ℕ) → call ≡ Wrote at v done → piece ≡ v.items
    → Left s reads left
    → new_reads ≡ (if done then file_after_write reads at piece else reads)
    → Torn at (length piece) left new_left → Left (after s call) new_reads new_left
left_after s call at v done piece reads left new_reads new_left is same l read torn =
    let read : new_reads ≡ (if done then file_after_write reads at v.items else reads) = read
    ∙ ap (λ (p : List ℕ). if done then file_after_write reads at p else reads) same in
    subst (λ (k : DiskCall). Left (after s k) new_reads new_left) (sym is)
    (left_wrote s at v done reads left new_reads new_left l read
    (subst (λ (p : List ℕ). Torn at (length p) left new_left) same torn))
