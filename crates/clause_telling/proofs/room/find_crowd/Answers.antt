use Rattle.std.proofs.Common.{◌∙◌, refl, sym}
use Rattle.std.specs.Prelude.{reverse}
use Rattle.check_telling.{specs.Standing.rows_of, proofs.Sizes.vec_long}
use Rattle.clause_telling.proofs.Rooms.{newer_of, room_is}
use Rattle.clause_telling.proofs.room.find_crowd.Goals as goal

pub returns-then-fits : goal.returns-then-fits
returns-then-fits g c =
    sym (room_is c.args.rules.now c.args.tick (reverse (rows_of c.args.past.now)) c.in_ok-stand.stand.items c.in_ok-wait.wait.items c.deref.result.now c.first_crowded-newer.result
    c.len.result c.len-2.result c.fits.result c.in_ok-stand.ensures.rows c.in_ok-wait.ensures.rows c.deref.ensures.value (c.len.ensures ∙ vec_long c.in_ok-stand.stand)
    (c.len-2.ensures ∙ vec_long c.in_ok-wait.wait) c.first_crowded-newer.ensures c.fits.ensures)
    ∙ c.if-fits.true

pub returns : goal.returns
returns g c = (
  sym (room_is c.args.rules.now c.args.tick (reverse (rows_of c.args.past.now)) c.in_ok-stand.stand.items c.in_ok-wait.wait.items c.deref.result.now c.first_crowded-newer.result
      c.len.result c.len-2.result c.fits.result c.in_ok-stand.ensures.rows c.in_ok-wait.ensures.rows c.deref.ensures.value (c.len.ensures ∙ vec_long c.in_ok-stand.stand)
      (c.len-2.ensures ∙ vec_long c.in_ok-wait.wait) c.first_crowded-newer.ensures c.fits.ensures)
      ∙ c.if-fits.false,
  record {
    bank_is = refl;
    stand = c.in_ok-stand.ensures.rows;
    wait = c.in_ok-wait.ensures.rows;
    newer_is = newer_of c.in_ok-stand.stand.items c.deref.result.now c.first_crowded-newer.result c.deref.ensures.value c.first_crowded-newer.ensures;
  },
)
