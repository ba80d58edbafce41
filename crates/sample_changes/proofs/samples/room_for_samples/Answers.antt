use Rattle.std.proofs.Common.{[], refl}
use Rattle.sample_changes.proofs.Following.{days_made}
use Rattle.sample_changes.proofs.samples.room_for_samples.Goals as goal

-- the days are there, and all else stays
pub returns-clause-stays : goal.returns-clause-stays
returns-clause-stays c =
    let d = c.args.derived.now in
    let book = c.make_room.new.self in
    let sums = c.reserve_rows.new.self in
    record {
      origin = refl;
      entries = refl;
      present = refl;
      catalog = refl;
      zones = refl;
      rows = c.make_room.ensures.rows;
      exclusions = c.make_room.ensures.exclusions;
      accepted = refl;
      upgraded = refl;
      notices = refl;
      states = refl;
      sums = days_made d.catalog d.book.exclusions book.exclusions d.book.rows book.rows
          d.sums sums c.make_room.ensures.exclusions c.make_room.ensures.rows
          c.reserve_rows.ensures.measures c.reserve_rows.ensures.pooled_measures
          (c.reserve_rows.ensures.kept d.book.exclusions d.book.rows)
          (c.reserve_rows.ensures.pooled [] d.book.rows);
    }
