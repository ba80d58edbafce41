-- Pairs that the first cells have, and the rest of them forgotten.
use Rattle.std.proofs.Common.{◌≡◌, ◌∙◌, ◌+◌, ◌≤◌, ◌++◌, ◌∷◌, ℕ, List, [], All, length}
use Rattle.std.proofs.Common.{length-append, map, max, min, take, slice_get, Some, ap, sym, subst}
use Rattle.std.proofs.Common.{arith, add-one}
use Rattle.std.proofs.lemmas.List.{get_or-take, length-take, length-take-le, take-append-le}
use Rattle.std.proofs.lemmas.List.{take-take, take_min}
use Rattle.std.proofs.lemmas.List.Elements.{All-push, All-take, All-weaker}
use Rattle.cell_index.specs.Keys.{AreKnown, IsNamed, cell_named}
use Rattle.cell_index.specs.Pairs.{IsLonger, pair_at}
use Rattle.cell_index.specs.declared.cells.Key.{Key}
use Rattle.cell_index.specs.declared.pairs.Pair.{Pair}
use Rattle.cell_index.proofs.AlikeLemmas.{map-alike}
use Rattle.cell_index.proofs.CellLemmas.{named-longer}
use Rattle.cell_index.proofs.ListLemmas.{map-take, take_at}

-- fewer of the first keys
pub numbered-first : (pairs : ℕ) (keys : List Key) (count place : ℕ) → count ≤ place
    → All (IsNamed pairs) (take place keys) → All (IsNamed pairs) (take count keys)
numbered-first pairs keys count place h n =
    subst (All (IsNamed pairs)) (take-take count place keys h)
    (All-take (IsNamed pairs) count (take place keys) n)

-- one of the first keys more
pub numbered-next : (pairs : ℕ) (keys : List Key) (key : Key) (place : ℕ)
    → slice_get keys place ≡ Some key → All (IsNamed pairs) (take place keys)
    → All (IsNamed (max pairs (key.pair + 1))) (take (place + 1) keys)
numbered-next pairs keys key place there n =
    let more = IsNamed (max pairs (key.pair + 1)) in
    subst (All more) (sym (ap (λ k. take k keys) (add-one place) ∙ take_at keys place key there))
    (All-push more (take place keys) key
    (All-weaker (IsNamed pairs) more (λ k h. omega (arith, h)) (take place keys) n) (omega arith))

-- pairs from a number on are forgotten that no key has
named-cut : (pairs : List Pair) (few : ℕ) (keys : List Key) → All (IsNamed few) keys
    → All (IsNamed (length pairs)) keys → All (IsNamed (length (take few pairs))) keys
named-cut pairs few keys n h k d inside =
    omega (arith, n k d inside, h k d inside, length-take few pairs)

cells-cut : (pairs : List Pair) (few : ℕ) (keys : List Key) → All (IsNamed few) keys
    → map (cell_named (take few pairs)) keys ≡ map (cell_named pairs) keys
cells-cut pairs few keys n =
    map-alike (cell_named (take few pairs)) (cell_named pairs) (IsNamed few)
    (λ key inside.
    let pair : pair_at (take few pairs) key.pair ≡ pair_at pairs key.pair =
    get_or-take few pairs key.pair (record { sli = []; source = [] }) inside in
    λ i. record { sli = (pair i).sli; source = (pair i).source; minute = key.minute })
    keys n

known-first : (pairs : List Pair) (few : ℕ) (keys : List Key) (count : ℕ) → count ≤ length keys
    → All (IsNamed few) (take count keys) → All (IsNamed (length pairs)) keys
    → AreKnown (take few pairs) (take count keys) count few
known-first pairs few keys count h n named = record {
  named = named-cut pairs few (take count keys) n
      (All-take (IsNamed (length pairs)) count keys named);
  within = let long = length-take-le count keys h in omega (arith, long);
  numbered = subst (All (IsNamed few)) (sym (take-take count count keys (omega arith))) n;
}

-- pairs that come later, and a key behind the others
pub known-longer : (pairs pairs' : List Pair) (keys : List Key) (settled few : ℕ)
    → IsLonger pairs pairs' → AreKnown pairs keys settled few → AreKnown pairs' keys settled few
known-longer pairs pairs' keys settled few longer known = record {
  named = named-longer pairs pairs' keys longer known.named;
  within = known.within;
  numbered = known.numbered;
}

pub known-push : (pairs : List Pair) (keys : List Key) (key : Key) (settled few : ℕ)
    → IsNamed (length pairs) key → AreKnown pairs keys settled few
    → AreKnown pairs (keys ++ key ∷ []) settled few
known-push pairs keys key settled few n known = record {
  named = All-push (IsNamed (length pairs)) keys key known.named n;
  within = omega (arith, known.within, length-append keys (key ∷ []));
  numbered = subst (All (IsNamed few))
      (sym (take-append-le settled keys (key ∷ []) known.within)) known.numbered;
}

-- what is forgotten from a place on, as the code does it
pub known-after : (pairs pairs' : List Pair) (keys keys' : List Key) (count few : ℕ)
    → pairs' ≡ take few pairs → keys' ≡ take count keys → count ≤ length keys
    → All (IsNamed few) (take count keys) → All (IsNamed (length pairs)) keys
    → AreKnown pairs' keys' count few
known-after pairs pairs' keys keys' count few e g h n named =
    subst (λ (ps : List Pair). AreKnown ps keys' count few) (sym e)
    (subst (λ (ks : List Key). AreKnown (take few pairs) ks count few) (sym g)
    (known-first pairs few keys count h n named))

pub cells-after : (pairs pairs' : List Pair) (keys keys' : List Key) (count n few : ℕ) →
    pairs' ≡ take few pairs → keys' ≡ take n keys → n ≡ min count (length keys) →
    All (IsNamed few) (take n keys) →
    map (cell_named pairs') keys' ≡ take count (map (cell_named pairs) keys)
cells-after pairs pairs' keys keys' count n few e g h numbered =
    (λ i. map (cell_named (e i)) (g i))
    ∙ cells-cut pairs few (take n keys) numbered
    ∙ ap (λ k. map (cell_named pairs) (take k keys)) h
    ∙ ap (map (cell_named pairs)) (take_min count keys)
    ∙ map-take (cell_named pairs) count keys
