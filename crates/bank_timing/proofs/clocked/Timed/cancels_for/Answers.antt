use Rattle.std.proofs.Common.{arith}
use Rattle.bank_timing.proofs.Sizes.{bank_fits, kept_fits, bytes_fits}
use Rattle.bank_timing.proofs.clocked.Timed.cancels_for.Goals as goal

pub waiting-requires : goal.waiting-requires
waiting-requires g c = bank_fits c.self.invariant.layout

pub kept-requires : goal.kept-requires
kept-requires g c = (bank_fits c.self.invariant.layout, kept_fits)

pub cancels-requires : goal.cancels-requires
cancels-requires g c = tt

pub is_writing-requires : goal.is_writing-requires
is_writing-requires g c = tt

pub returns-then-not-cancels : goal.returns-then-not-cancels
returns-then-not-cancels g c = grind arith

pub returns-then-self-ge4 : goal.returns-then-self-ge4
returns-then-self-ge4 g c = grind arith

pub newest-bytes-requires : goal.newest-bytes-requires
newest-bytes-requires g c =
    let fits = bytes_fits c.self.invariant.layout in
    (kept_fits, (fits, fits))

pub has_all-requires : goal.has_all-requires
has_all-requires g c = bytes_fits c.self.invariant.layout

pub returns : goal.returns
returns g c = grind arith
