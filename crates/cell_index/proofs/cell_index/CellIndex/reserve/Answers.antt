use Rattle.std.proofs.Common.{arith, map}
use Rattle.cell_index.specs.Chains.{day_group, sli_group}
use Rattle.cell_index.proofs.cell_index.CellIndex.reserve.Goals as goal

pub returns-in_err-reserve-clause-stays : goal.returns-in_err-reserve-clause-stays
returns-in_err-reserve-clause-stays c fewer ready =
    record {
      days = c.reserve.ensures.stays fewer ready.days;
      slis = ready.slis;
      extents = ready.extents;
    }

pub returns-clause-stays : goal.returns-clause-stays
returns-clause-stays c fewer ready = record {
  days = c.reserve.ensures.stays fewer ready.days;
  slis = c.reserve-2.ensures.stays fewer ready.slis;
  extents = omega (arith, ready.extents, c.reserve-3.ensures.stays);
}

pub returns-in_err-reserve-clause-indexed : goal.returns-in_err-reserve-clause-indexed
returns-in_err-reserve-clause-indexed c cells indexed =
    record {
      days = c.reserve.ensures.linked (map day_group cells) indexed.days;
      slis = indexed.slis;
      extents = indexed.extents;
    }

pub returns-clause-indexed : goal.returns-clause-indexed
returns-clause-indexed c cells indexed =
    record {
      days = c.reserve.ensures.linked (map day_group cells) indexed.days;
      slis = c.reserve-2.ensures.linked (map sli_group cells) indexed.slis;
      extents = c.reserve-3.ensures.known cells indexed.extents;
    }

pub returns-in_err-reserve-2-clause-stays : goal.returns-in_err-reserve-2-clause-stays
returns-in_err-reserve-2-clause-stays c fewer ready =
    record {
      days = c.reserve.ensures.stays fewer ready.days;
      slis = c.reserve-2.ensures.stays fewer ready.slis;
      extents = ready.extents;
    }

pub returns-in_err-reserve-2-clause-indexed : goal.returns-in_err-reserve-2-clause-indexed
returns-in_err-reserve-2-clause-indexed c cells indexed =
    record {
      days = c.reserve.ensures.linked (map day_group cells) indexed.days;
      slis = c.reserve-2.ensures.linked (map sli_group cells) indexed.slis;
      extents = indexed.extents;
    }
