use Rattle.std.proofs.Common.{rules, arith, ap, subst, sym, ◌≡◌, ◌<◌, ◌∙◌, ◌++◌, ◌∷◌, [], true}
use Rattle.std.proofs.Common.{Bool, List, None, length, length-append}
use Rattle.sample_book.specs.Exclusions.{Kept, MOST_EXCLUSIONS, exclusion_of}
use Rattle.sample_book.specs.Reaches.{AreReaches}
use Rattle.sample_book.specs.declared.exclusions.Exclusion.{Exclusion}
use Rattle.sample_book.proofs.IdLemmas.{exclusions_more}
use Rattle.sample_book.proofs.exclusions.Exclusions.exclude.Goals as goal

pub make_reaches-requires : goal.make_reaches-requires
make_reaches-requires c =
    let made = c.self.inside.made.items in
    let some : 0 < c.self.inside.room =
    subst (λ (k : Kept). 0 < k.spare) (sym c.self.view_is) c.requires.spare in
    let is : c.extend_from_slice.new.self.items ≡ made ++ (c.args.value, true) ∷ [] =
    search rules in
    omega (
      arith,
      ap length c.deref.ensures.value,
      ap length is,
      length-append made ((c.args.value, true) ∷ []),
      some,
      c.self.invariant.listed,
    )

pub invariant_of-self : goal.invariant_of-self
invariant_of-self c =
    let made = c.self.inside.made.items in
    let known = c.self.invariant in
    let unused : exclusion_of made c.args.value.id ≡ None =
    ap (λ (k : Kept). exclusion_of k.made c.args.value.id) c.self.view_is ∙ c.requires.unused in
    let some : 0 < c.self.inside.room =
    subst (λ (k : Kept). 0 < k.spare) (sym c.self.view_is) c.requires.spare in
    let few : length made < MOST_EXCLUSIONS = omega (arith, some, known.few) in
    let is : c.extend_from_slice.new.self.items ≡ made ++ (c.args.value, true) ∷ [] =
    search rules in
    let more = ap length is ∙ length-append made ((c.args.value, true) ∷ []) in
    record {
      exclusions = exclusions_more made c.extend_from_slice.new.self.items c.args.value
          known.exclusions unused few is;
      in_step = subst (λ (xs : List (Exclusion × Bool)).
          AreReaches xs c.make_reaches.new.reaches.items) c.deref.ensures.value
          c.make_reaches.ensures.reaches;
      few = omega (arith, more, some, known.few);
      ready = omega (arith, more, some, known.ready, c.extend_from_slice.ensures.capacity);
      listed = omega (arith, more, some, known.listed, c.make_reaches.ensures.capacity);
    }

pub returns-clause-spare : goal.returns-clause-spare
returns-clause-spare c = omega (arith, ap (λ (k : Kept). k.spare) c.self.view_is)
