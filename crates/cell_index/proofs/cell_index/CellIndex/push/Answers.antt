use Rattle.std.proofs.Common.{◌≡◌, ◌∙◌, ◌/◌, ◌<◌, arith, map, subst, sym, refl, length}
use Rattle.std.proofs.lemmas.List.{map_push}
use Rattle.cell_index.specs.Chains.{AreLinked, day_group, group_eq, last, sli_group}
use Rattle.cell_index.specs.Cells.{is_cell_on}
use Rattle.cell_index.proofs.ChainLemmas.{day-test, last-map, linked-length}
use Rattle.cell_index.proofs.ExtentLemmas.{extents_same}
use Rattle.cell_index.proofs.cell_index.CellIndex.push.Goals as goal

pub len-place-requires : goal.len-place-requires
len-place-requires c = omega (
  arith,
  c.requires.few.2,
  linked-length c.requires.few.0 sli_group c.args.self.now.slis c.requires.few.1.slis,
)

pub push-before-requires-clause-few : goal.push-before-requires-clause-few
push-before-requires-clause-few c = omega (
  arith,
  c.requires.few.2,
  linked-length c.requires.few.0 day_group c.args.self.now.days c.requires.few.1.days,
)

pub push-requires-clause-few : goal.push-requires-clause-few
push-requires-clause-few c = omega (
  arith,
  c.requires.few.2,
  linked-length c.requires.few.0 sli_group c.args.self.now.slis c.requires.few.1.slis,
)

pub add_day-requires-clause-few : goal.add_day-requires-clause-few
add_day-requires-clause-few c = omega (
  arith,
  c.len-place.ensures,
  c.requires.few.2,
  linked-length c.requires.few.0 sli_group c.args.self.now.slis c.requires.few.1.slis,
)

pub add_day-requires-clause-room : goal.add_day-requires-clause-room
add_day-requires-clause-room c = omega (arith, c.requires.ready.extents)

pub push-before-requires-clause-room : goal.push-before-requires-clause-room
push-before-requires-clause-room c = c.requires.ready.days

pub push-requires-clause-room : goal.push-requires-clause-room
push-requires-clause-room c = c.requires.ready.slis

pub returns-then-before-eq0-clause-ready : goal.returns-then-before-eq0-clause-ready
returns-then-before-eq0-clause-ready c count ready = record {
  days = c.push-before.ensures.room count ready.days;
  slis = c.push.ensures.room count ready.slis;
  extents = omega (arith, c.add_day.ensures.room, ready.extents);
}

pub returns-else-before-eq0-clause-ready : goal.returns-else-before-eq0-clause-ready
returns-else-before-eq0-clause-ready c count ready = record {
  days = c.push-before.ensures.room count ready.days;
  slis = c.push.ensures.room count ready.slis;
  extents = omega (arith, ready.extents);
}

pub returns-then-before-eq0-clause-indexed : goal.returns-then-before-eq0-clause-indexed
returns-then-before-eq0-clause-indexed c cells indexed =
    let cell = c.args.cell.now in
    let place : c.len-place.result ≡ length cells = c.len-place.ensures
    ∙ linked-length cells sli_group c.args.self.now.slis indexed.slis in
    let before : c.push-before.result ≡ last (is_cell_on cell.sli (cell.minute / 1440)) cells =
    c.push-before.ensures.before (map day_group cells) indexed.days
    ∙ last-map day_group (group_eq (day_group cell)) (is_cell_on cell.sli (cell.minute / 1440))
    (day-test cell.sli (cell.minute / 1440)) cells in
    record {
      days = subst (λ groups. AreLinked groups c.push-before.new.self)
          (sym (map_push day_group cells cell))
          (c.push-before.ensures.linked (map day_group cells) indexed.days);
      slis = subst (λ groups. AreLinked groups c.push.new.self)
          (sym (map_push sli_group cells cell))
          (c.push.ensures.linked (map sli_group cells) indexed.slis);
      extents = c.add_day.ensures.known cells cell indexed.extents refl place
          (sym before ∙ omega (arith, c.if-before-eq0.true));
    }

pub returns-else-before-eq0-clause-indexed : goal.returns-else-before-eq0-clause-indexed
returns-else-before-eq0-clause-indexed c cells indexed =
    let cell = c.args.cell.now in
    let before : c.push-before.result ≡ last (is_cell_on cell.sli (cell.minute / 1440)) cells =
    c.push-before.ensures.before (map day_group cells) indexed.days
    ∙ last-map day_group (group_eq (day_group cell)) (is_cell_on cell.sli (cell.minute / 1440))
    (day-test cell.sli (cell.minute / 1440)) cells in
    let some : 0 < c.push-before.result = omega (arith, c.if-before-eq0.false) in
    record {
      days = subst (λ groups. AreLinked groups c.push-before.new.self)
          (sym (map_push day_group cells cell))
          (c.push-before.ensures.linked (map day_group cells) indexed.days);
      slis = subst (λ groups. AreLinked groups c.push.new.self)
          (sym (map_push sli_group cells cell))
          (c.push.ensures.linked (map sli_group cells) indexed.slis);
      extents = extents_same cells cell c.args.self.now.extents c.push-before.result
          indexed.extents before some;
    }
