-- A module fits in memory.
use Rattle.std.proofs.Common.{◌<◌, arith}

pub module_fits : 112 < 9223372036854775808
module_fits = omega arith
