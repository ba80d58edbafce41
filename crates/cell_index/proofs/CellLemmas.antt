-- Cells by the numbers of their pairs are the cells that these name.
use Rattle.std.proofs.Common.{◌≡◌, ◌∙◌, ◌++◌, ◌∷◌, ◌&&◌, Bool, true, false, List, [], All}
use Rattle.std.proofs.Common.{length, length-append, map, nat_eq, None, refl, ap, sym}
use Rattle.std.proofs.Common.{arith}
use Rattle.std.specs.List.{position}
use Rattle.std.specs.Prelude.{Result, Ok, Err, IfOk, OnErr}
use Rattle.std.specs.Result.{IsErrAnd}
use Rattle.std.specs.Str.{bytes_eq}
use Rattle.std.proofs.lemmas.List.{get_or_append_left, map_push}
use Rattle.std.proofs.lemmas.List.Elements.{All-weaker}
use Rattle.std.proofs.lemmas.List.Quantifiers.{position-Some}
use Rattle.cell_index.specs.Cells.{cell_eq}
use Rattle.cell_index.specs.Keys.{HasNoKey, IsKeyOf, IsNamed, cell_named, key_eq}
use Rattle.cell_index.specs.Pairs.{IsLonger, pair_at, pair_eq, pair_of}
use Rattle.cell_index.specs.declared.cell.Cell.{Cell}
use Rattle.cell_index.specs.declared.cells.Key.{Key}
use Rattle.cell_index.specs.declared.pairs.Pair.{Pair}
use Rattle.cell_index.proofs.AlikeLemmas.{map-alike, nowhere_at, position-nowhere}
use Rattle.cell_index.proofs.AlikeLemmas.{position-through, same_place}
use Rattle.cell_index.proofs.PairLemmas.{pair_laws, pair_same}

and_right : (a b c : Bool) → ((a && b) && c) ≡ (a && (b && c))
and_right true b c = refl
and_right false b c = refl

abbrev no_pair : Pair
no_pair = record { sli = []; source = [] }

-- a key is the key of a cell where it names that cell
same_key : (pairs : List Pair) (cell : Cell) (key other : Key) → IsKeyOf pairs cell key
    → IsNamed (length pairs) other → key_eq key other ≡ cell_eq cell (cell_named pairs other)
same_key pairs cell key other own named =
    let pair = same_place pair_laws pairs no_pair (pair_of cell) key.pair other.pair own.apart
    own.number named in
    (λ i. pair i && nat_eq (own.minute i) other.minute)
    ∙ and_right (bytes_eq cell.sli (pair_at pairs other.pair).sli)
    (bytes_eq cell.source (pair_at pairs other.pair).source) (nat_eq cell.minute other.minute)

-- a cell whose pair has no number is none of those that are there
no_key : (pairs : List Pair) (cell : Cell) (other : Key) → HasNoKey pairs cell
    → IsNamed (length pairs) other → cell_eq cell (cell_named pairs other) ≡ false
no_key pairs cell other none named =
    sym (and_right (bytes_eq cell.sli (pair_at pairs other.pair).sli)
    (bytes_eq cell.source (pair_at pairs other.pair).source) (nat_eq cell.minute other.minute))
    ∙ ap (λ (b : Bool). b && nat_eq cell.minute other.minute)
    (nowhere_at (pair_eq (pair_of cell)) pairs other.pair no_pair none named)

-- where a cell stands, by its key
pub position-named : (pairs : List Pair) (cell : Cell) (key : Key) (keys : List Key) →
    IsKeyOf pairs cell key → All (IsNamed (length pairs)) keys →
    position (key_eq key) keys ≡ position (cell_eq cell) (map (cell_named pairs) keys)
position-named pairs cell key keys own named =
    position-through (cell_named pairs) (key_eq key) (cell_eq cell) (IsNamed (length pairs))
    (λ other. same_key pairs cell key other own) keys named

-- a cell without a key stands nowhere
pub position-absent : (pairs : List Pair) (cell : Cell) (keys : List Key) → HasNoKey pairs cell
    → All (IsNamed (length pairs)) keys
    → position (cell_eq cell) (map (cell_named pairs) keys) ≡ None
position-absent pairs cell keys none named =
    position-nowhere (cell_named pairs) (cell_eq cell) (IsNamed (length pairs))
    (λ other. no_key pairs cell other none) keys named

-- pairs that come later change no cell
pub cells-longer : (pairs pairs' : List Pair) (keys : List Key) → IsLonger pairs pairs'
    → All (IsNamed (length pairs)) keys
    → map (cell_named pairs') keys ≡ map (cell_named pairs) keys
cells-longer pairs pairs' keys longer named =
    map-alike (cell_named pairs') (cell_named pairs) (IsNamed (length pairs))
    (λ key inside.
    let pair : pair_at pairs' key.pair ≡ pair_at pairs key.pair =
    ap (λ ps. pair_at ps key.pair) longer.longer
    ∙ get_or_append_left pairs longer.added no_pair key.pair inside in
    λ i. record { sli = (pair i).sli; source = (pair i).source; minute = key.minute })
    keys named

pub named-longer : (pairs pairs' : List Pair) (keys : List Key) → IsLonger pairs pairs'
    → All (IsNamed (length pairs)) keys → All (IsNamed (length pairs')) keys
named-longer pairs pairs' keys longer named =
    All-weaker (IsNamed (length pairs)) (IsNamed (length pairs'))
    (λ key inside.
    omega (arith, ap length longer.longer, length-append pairs longer.added, inside))
    keys named

-- a key has the pair of its cell
pub IsNamed-key : (pairs : List Pair) (cell : Cell) (key : Key) → IsKeyOf pairs cell key
    → IsNamed (length pairs) key
IsNamed-key pairs cell key own =
    (position-Some (pair_eq (pair_of cell)) pairs key.pair no_pair own.number).0

cell_named-key : (pairs : List Pair) (cell : Cell) (key : Key) → IsKeyOf pairs cell key
    → cell_named pairs key ≡ cell
cell_named-key pairs cell key own =
    let pair : pair_at pairs key.pair ≡ pair_of cell =
    sym (pair_same (pair_of cell) (pair_at pairs key.pair)
    (position-Some (pair_eq (pair_of cell)) pairs key.pair no_pair own.number).1) in
    λ i. record { sli = (pair i).sli; source = (pair i).source; minute = own.minute i }

-- the key of a cell that isn't there comes behind the others
pub cells_added : (pairs pairs' : List Pair) (keys keys' : List Key) (cell : Cell) (key : Key) →
    IsLonger pairs pairs' → All (IsNamed (length pairs)) keys → IsKeyOf pairs' cell key →
    keys' ≡ keys ++ key ∷ [] →
    map (cell_named pairs') keys' ≡ map (cell_named pairs) keys ++ cell ∷ []
cells_added pairs pairs' keys keys' cell key longer named own e =
    ap (map (cell_named pairs')) e ∙ map_push (cell_named pairs') keys key
    ∙ ap (λ cells. cells ++ cell_named pairs' key ∷ [])
    (cells-longer pairs pairs' keys longer named)
    ∙ ap (λ (c : Cell). map (cell_named pairs) keys ++ c ∷ []) (cell_named-key pairs' cell key own)

-- where the key of a cell stands among keys whose pairs came before, the cell stands among theirs
pub position-longer : (pairs pairs' : List Pair) (keys : List Key) (cell : Cell) (key : Key)
    (cells : List Cell) → IsLonger pairs pairs' → All (IsNamed (length pairs)) keys →
    IsKeyOf pairs' cell key → map (cell_named pairs) keys ≡ cells →
    position (key_eq key) keys ≡ position (cell_eq cell) cells
position-longer pairs pairs' keys cell key cells longer named own e =
    position-named pairs' cell key keys own (named-longer pairs pairs' keys longer named)
    ∙ ap (position (cell_eq cell)) (cells-longer pairs pairs' keys longer named ∙ e)

-- what holds anyway holds after a refusal
pub always_err : {A E P : Type 0} (r : Result A E) → P → OnErr r P
always_err (Ok a) p = tt
always_err (Err e) p = p

-- what is said of the value of a call that has failed
pub never_ok : {A E : Type 0} (Q : E → Type 0) (P : A → Type 0) (r : Result A E)
    → IsErrAnd r Q → IfOk r P
never_ok Q P (Ok a) h = absurd h
never_ok Q P (Err e) h = tt
