-- The two sizes of lines that modules are built of.
use Rattle.std.proofs.Common.{◌≡◌, ℕ, ◌*◌, ◌^◌, refl, subst, sym, arith}
use Rattle.ecp_line.specs.Layout.{width, IsLayout}

width-64 : width 64 ≡ 9
unfolding width lib.Count.count_trailing_zeros
width-64 = refl

width-128 : width 128 ≡ 10
unfolding width lib.Count.count_trailing_zeros
width-128 = refl

-- 64 data bytes and 8 check bytes have room for six entries
pub layout_64 : IsLayout 64 8 6
layout_64 = let e = width-64 in record {
  shape = (omega arith, omega arith, omega arith, omega arith);
  digits = subst (λ (w : ℕ). 2 ^ w ≡ 8 * 64) (sym width-64) refl;
  two = omega arith;
  most = omega arith;
  room = omega arith;
}

-- 128 data bytes and 16 check bytes have room for eight
pub layout_128 : IsLayout 128 16 8
layout_128 = let e = width-128 in record {
  shape = (omega arith, omega arith, omega arith, omega arith);
  digits = subst (λ (w : ℕ). 2 ^ w ≡ 8 * 128) (sym width-128) refl;
  two = omega arith;
  most = omega arith;
  room = omega arith;
}
