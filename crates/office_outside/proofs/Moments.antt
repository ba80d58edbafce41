-- How a run of disk calls goes on.
use Rattle.std.proofs.Common.{inl, inr, ◌⊎◌, ⊎_elim, ℕ, List, arith}
use Rattle.office_outside.specs.Disk.{Elapses, LeavesOnly, NoMore, All, Always, IsQuiet, OnlyNow}
use Rattle.office_outside.specs.Senses.{DiskSenses}

module _ {D : Type 0} {S : DiskSenses D} where
  -- a run without a call
  pub leaves_still : {d : D} {P : List ℕ → Type 0}
      → OnlyNow S
      → All P (S.images d) → LeavesOnly S d d P
  leaves_still {d} only_now here = record {
    later = omega arith;
    each = λ c left. here c (only_now d c left);
    before = λ t c le left. inl left;
  }

  pub leaves_weaker : {old new : D} {P Q : List ℕ → Type 0} → LeavesOnly S old new P
      → ((c : List ℕ) → P c → Q c) → LeavesOnly S old new Q
  leaves_weaker a f = record {
    later = a.later;
    each = λ c left. f c (a.each c left);
    before = λ t c le left. ⊎_elim (λ w. inl w) (λ p. inr (f c p)) (a.before t c le left);
  }

  -- one run after another
  pub leaves_then : {old mid new : D} {P Q : List ℕ → Type 0} → LeavesOnly S old mid P
      → LeavesOnly S mid new Q → ((c : List ℕ) → P c → Q c) → LeavesOnly S old new Q
  leaves_then {old} first second f = record {
    later = omega (arith, first.later, second.later);
    each = λ c left. ⊎_elim (λ was. f c (first.each c was)) (λ q. q)
        (second.before (S.moment old) c first.later left);
    before = λ t c le left. ⊎_elim
        (λ was. ⊎_elim (λ w. inl w) (λ p. inr (f c p)) (first.before t c le was))
        (λ q. inr q) (second.before t c (omega (arith, le, first.later)) left);
  }

  -- one call: each image was P before it, and is after it
  pub one_call : {old new : D} {P : List ℕ → Type 0}
      → OnlyNow S
      → All P (S.images old) → Elapses S old new → All P (S.images new) → Always S old new P
  one_call {old} only_now was time here = record {
    moments = record {
      later = time.later;
      each = λ c left. ⊎_elim (λ past. was c (only_now old c past)) (here c)
          (time.nothing_else (S.moment old) c (omega arith) left);
      before = λ t c le left. ⊎_elim (λ past. inl past) (λ now. inr (here c now))
          (time.nothing_else t c le left);
    };
    now = here;
  }

  -- one call more, after which there are no more images
  pub stays : {old mid new : D} {P : List ℕ → Type 0} → Always S old mid P → Elapses S mid new
      → NoMore (S.images mid) (S.images new) → Always S old new P
  stays {old} {mid} {new} so_far time none = record {
    moments = record {
      later = omega (arith, so_far.moments.later, time.later);
      each = λ c left. ⊎_elim (so_far.moments.each c) (λ now. so_far.now c (none c now))
          (time.nothing_else (S.moment old) c so_far.moments.later left);
      before = λ t c le left. ⊎_elim (so_far.moments.before t c le)
          (λ now. inr (so_far.now c (none c now)))
          (time.nothing_else t c (omega (arith, le, so_far.moments.later)) left);
    };
    now = λ c now. so_far.now c (none c now);
  }

  -- one run after another
  pub behind : {old mid new : D} {P Q : List ℕ → Type 0} → Always S old mid P → Always S mid new Q
      → ((c : List ℕ) → P c → Q c) → Always S old new Q
  behind first second f =
      record { moments = leaves_then first.moments second.moments f; now = second.now }

  pub weaker : {old new : D} {P Q : List ℕ → Type 0} → Always S old new P
      → ((c : List ℕ) → P c → Q c) → Always S old new Q
  weaker a f = record { moments = leaves_weaker a.moments f; now = λ c now. f c (a.now c now) }

  -- nothing happened
  pub quiet_still : {d : D} → IsQuiet S d d
  quiet_still = record {
    later = omega arith;
    no_more = λ c now. now;
    nothing_else = λ t c le left. left;
  }

  -- one quiet run after another
  pub quiet_then : {old mid new : D} → IsQuiet S old mid → IsQuiet S mid new → IsQuiet S old new
  quiet_then a b = record {
    later = omega (arith, a.later, b.later);
    no_more = λ c now. a.no_more c (b.no_more c now);
    nothing_else =
        λ t c le left. a.nothing_else t c le (b.nothing_else t c (omega (arith, le, a.later)) left);
  }
