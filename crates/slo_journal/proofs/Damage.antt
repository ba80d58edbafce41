-- A file stops standing for legal histories at one place.
use Rattle.std.proofs.Common.{◌≡◌, ◌⊎◌, ⊎_elim, inl, inr, ℕ, ◌+◌, ◌-◌, ◌≤◌, List, [], ◌∷◌, ◌++◌}
use Rattle.std.proofs.Common.{length, drop, refl, sym, ap, ◌∙◌, subst, arith}
use Rattle.slo_journal.specs.File.{four, Records, Parts, tail_of}
use Rattle.slo_journal.specs.Legal.{Anything, StopsAt}
use Rattle.slo_journal.proofs.Files.{SplitFile, splits_file, same_front, same_header, head_same}
use Rattle.slo_journal.proofs.Walking.{at_place, record_seen, size-both}
use Rattle.slo_limits.specs.declared.TheConstants.{MAX_JOURNAL_BYTES}

-- the second list goes on behind the first
record GoesFurther (rs ss : List (List ℕ)) (bytes : List ℕ) : Type 0 where
  more : List (List ℕ)
  same : ss ≡ rs ++ more
  records_are : Records (Records Anything more) rs bytes

-- of two lists that the bytes hold one goes on behind the other
one_further : (rs ss : List (List ℕ)) (bytes : List ℕ) → Records Anything rs bytes
    → Records Anything ss bytes → GoesFurther rs ss bytes ⊎ GoesFurther ss rs bytes
one_further [] ss bytes a b = inl (record { more = ss; same = refl; records_are = b })
one_further (r ∷ rs) [] bytes a b =
    inr (record { more = r ∷ rs; same = refl; records_are = a })
one_further (r ∷ rs) (s ∷ ss) bytes (g, x, gi, rz, e, more) (h, y, hi, sz, f, moar) =
    let both = same_front r s x y rz sz (head_same _ _ _ _ (sym e ∙ f)).1 in
    ⊎_elim
    (λ (on : GoesFurther rs ss x). inl (record {
      more = on.more;
      same = ap (λ (l : List ℕ). l ∷ ss) (sym both.0) ∙ ap (λ (l : List (List ℕ)). r ∷ l) on.same;
      records_are = (g, x, gi, rz, e, on.records_are);
    }))
    (λ (on : GoesFurther ss rs x). inr (record {
      more = on.more;
      same = ap (λ (l : List ℕ). l ∷ rs) both.0 ∙ ap (λ (l : List (List ℕ)). s ∷ l) on.same;
      records_are = (
        h,
        x,
        hi,
        sz,
        f ∙ ap (λ (l : List ℕ). h ∷ (four (length s) ++ (s ++ l))) (sym both.1),
        on.records_are,
      );
    }))
    (one_further rs ss x more (subst (Records Anything ss) (sym both.1) moar))

module _ (legal : List (List ℕ) → List ℕ → Type 0) where
  -- no walk over a legal history goes on behind the place
  none_further : (o p at bt : ℕ) (file : List ℕ) → (a : StopsAt legal o at file)
      → (b : StopsAt legal p bt file) → (more : List (List ℕ)) → b.history ≡ a.history ++ more
      → Parts (Records Anything more) o a.history file → at ≡ bt
  none_further o p at bt file a b [] same parts = omega (
    arith,
    a.before.place,
    b.before.place,
    ap tail_of same,
    size-both a.history [],
  )
  none_further o p at bt file a b (r ∷ after) same parts =
      let s = splits_file (Records Anything (r ∷ after)) o a.history file parts in
      absurd (a.no_record r (record_seen (MAX_JOURNAL_BYTES - at) s.is.0 r (drop at file) s.is.1
      (omega (
        arith,
        a.before.place,
        b.before.place,
        b.within,
        ap tail_of same,
        size-both a.history (r ∷ after),
      )) s.is.2 s.is.3
      (at_place (Records Anything (r ∷ after)) o a.history at file a.before.place s ∙ s.is.4))
      (b.before.is_legal a.history r after same))

  -- a file has one origin and one damaged place at most
  pub one_stop : (o p at bt : ℕ) (file : List ℕ) → StopsAt legal o at file
      → StopsAt legal p bt file → at ≡ bt
  one_stop o p at bt file a b =
      let x = a.before.parts in
      let y = b.before.parts in
      let rest = (same_header Anything Anything o p a.history b.history file x y).1 in
      ⊎_elim
      (λ (on : GoesFurther a.history b.history x.rest).
      none_further o p at bt file a b on.more on.same (record {
        gate = x.gate;
        rest = x.rest;
        is_open = x.is_open;
        in_range = x.in_range;
        header = x.header;
        records_are = on.records_are;
      }))
      (λ (on : GoesFurther b.history a.history x.rest).
      sym (none_further p o bt at file b a on.more on.same (record {
        gate = y.gate;
        rest = y.rest;
        is_open = y.is_open;
        in_range = y.in_range;
        header = y.header;
        records_are = subst (Records (Records Anything on.more) b.history) rest on.records_are;
      })))
      (one_further a.history b.history x.rest x.records_are
      (subst (Records Anything b.history) (sym rest) y.records_are))
