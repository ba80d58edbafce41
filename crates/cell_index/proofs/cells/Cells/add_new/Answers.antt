use Rattle.std.proofs.Common.{◌∙◌, ◌++◌, ◌∷◌, [], ap, sym, subst, map, ℕ, List, Bool, Option}
use Rattle.std.proofs.Common.{is_some, if◌then◌else◌}
use Rattle.cell_index.specs.Keys.{AreKnown, cell_named, key_eq}
use Rattle.cell_index.specs.Cells.{cell_eq}
use Rattle.cell_index.specs.declared.cells.Key.{Key}
use Rattle.cell_index.proofs.CellLemmas.{always_err, IsNamed-key, cells-longer, cells_added}
use Rattle.cell_index.proofs.CellLemmas.{position-longer}
use Rattle.name_numbers.proofs.FirstPlaces.{any-position}
use Rattle.cell_index.proofs.FirstPairs.{known-longer, known-push}
use Rattle.cell_index.proofs.cells.Cells.add_new.Goals as goal

pub invariant_of-self : goal.invariant_of-self
invariant_of-self c = known-longer c.self.inside.pairs c.give_key.new.pairs c.self.inside.keys
    c.self.inside.settled c.self.inside.settled_pairs c.give_key.ensures.longer c.self.invariant

pub returns-in_err-key-clause-err : goal.returns-in_err-key-clause-err
returns-in_err-key-clause-err c = always_err c.from_residual.result
    (cells-longer c.self.inside.pairs c.give_key.new.pairs c.self.inside.keys
    c.give_key.ensures.longer c.self.invariant.named ∙ c.self.view_is)

pub invariant_of-self-in-Some : goal.invariant_of-self-in-Some
invariant_of-self-in-Some c = known-longer c.self.inside.pairs c.give_key.new.pairs
    c.self.inside.keys c.self.inside.settled c.self.inside.settled_pairs c.give_key.ensures.longer
    c.self.invariant

pub returns-in-Some-clause-place : goal.returns-in-Some-clause-place
returns-in-Some-clause-place c = sym c.in-Some.is ∙ c.find.ensures ∙ position-longer
    c.self.inside.pairs c.give_key.new.pairs c.self.inside.keys c.args.cell.now c.in_ok-key.key
    c.args.self.now c.give_key.ensures.longer c.self.invariant.named c.in_ok-key.ensures.key
    c.self.view_is

pub returns-in-Some-clause-ok : goal.returns-in-Some-clause-ok
returns-in-Some-clause-ok c =
    let cells = c.args.self.now in
    let cell = c.args.cell.now in
    (cells-longer c.self.inside.pairs c.give_key.new.pairs c.self.inside.keys
    c.give_key.ensures.longer c.self.invariant.named ∙ c.self.view_is)
    ∙ ap (λ (o : Option ℕ). if is_some o then cells else cells ++ cell ∷ [])
    (sym c.in-Some.is ∙ c.find.ensures ∙ position-longer c.self.inside.pairs c.give_key.new.pairs
    c.self.inside.keys c.args.cell.now c.in_ok-key.key c.args.self.now c.give_key.ensures.longer
    c.self.invariant.named c.in_ok-key.ensures.key c.self.view_is)
    ∙ ap (λ (b : Bool). if b then cells else cells ++ cell ∷ [])
    (sym (any-position (cell_eq cell) cells))

pub add-requires : goal.add-requires
add-requires c = any-position (key_eq c.in_ok-key.key) c.self.inside.keys
    ∙ ap is_some (sym c.find.ensures ∙ c.in-None.is)

pub invariant_of-self-in_err-add-in-None : goal.invariant_of-self-in_err-add-in-None
invariant_of-self-in_err-add-in-None c =
    subst (λ (keys : List Key). AreKnown c.give_key.new.pairs keys c.self.inside.settled
    c.self.inside.settled_pairs)
    (sym c.in_err-add-in-None.ensures.err)
    (known-longer c.self.inside.pairs c.give_key.new.pairs c.self.inside.keys
    c.self.inside.settled c.self.inside.settled_pairs c.give_key.ensures.longer c.self.invariant)

pub returns-in_err-add-in-None-clause-err : goal.returns-in_err-add-in-None-clause-err
returns-in_err-add-in-None-clause-err c =
    always_err c.from_residual-in_err-add-in-None.result
    (ap (map (cell_named c.give_key.new.pairs)) c.in_err-add-in-None.ensures.err
    ∙ (cells-longer c.self.inside.pairs c.give_key.new.pairs c.self.inside.keys
    c.give_key.ensures.longer c.self.invariant.named ∙ c.self.view_is))

pub invariant_of-self-in-None : goal.invariant_of-self-in-None
invariant_of-self-in-None c =
    subst (λ (keys : List Key). AreKnown c.give_key.new.pairs keys c.self.inside.settled
    c.self.inside.settled_pairs)
    (sym c.in_ok-add-in-None.ensures.ok)
    (known-push c.give_key.new.pairs c.self.inside.keys c.in_ok-key.key c.self.inside.settled
    c.self.inside.settled_pairs
    (IsNamed-key c.give_key.new.pairs c.args.cell.now c.in_ok-key.key c.in_ok-key.ensures.key)
    (known-longer c.self.inside.pairs c.give_key.new.pairs c.self.inside.keys
    c.self.inside.settled c.self.inside.settled_pairs c.give_key.ensures.longer
    c.self.invariant))

pub returns-in_ok-add-in-None-clause-place : goal.returns-in_ok-add-in-None-clause-place
returns-in_ok-add-in-None-clause-place c = sym c.in-None.is ∙ c.find.ensures ∙ position-longer
    c.self.inside.pairs c.give_key.new.pairs c.self.inside.keys c.args.cell.now c.in_ok-key.key
    c.args.self.now c.give_key.ensures.longer c.self.invariant.named c.in_ok-key.ensures.key
    c.self.view_is

pub returns-in_ok-add-in-None-clause-ok : goal.returns-in_ok-add-in-None-clause-ok
returns-in_ok-add-in-None-clause-ok c =
    let cells = c.args.self.now in
    let cell = c.args.cell.now in
    cells_added c.self.inside.pairs c.give_key.new.pairs c.self.inside.keys c.add.new.self cell
    c.in_ok-key.key c.give_key.ensures.longer c.self.invariant.named c.in_ok-key.ensures.key
    c.in_ok-add-in-None.ensures.ok
    ∙ ap (λ cells. cells ++ cell ∷ []) c.self.view_is
    ∙ ap (λ (o : Option ℕ). if is_some o then cells else cells ++ cell ∷ [])
    (sym c.in-None.is ∙ c.find.ensures ∙ position-longer c.self.inside.pairs
    c.give_key.new.pairs c.self.inside.keys c.args.cell.now c.in_ok-key.key c.args.self.now
    c.give_key.ensures.longer c.self.invariant.named c.in_ok-key.ensures.key c.self.view_is)
    ∙ ap (λ (b : Bool). if b then cells else cells ++ cell ∷ [])
    (sym (any-position (cell_eq cell) cells))
