-- What the pages of a line say of it.
use Rattle.std.specs.Prelude.{ℕ, ◌≡◌, Option, None, Some}
use Rattle.cell_rows.specs.declared.array.Wear.{Wear}
use Rattle.seeded_lines.specs.{Drawn.drawn_line, Seeded.LifeLine, Young.{IsYoung, grown_line}, declared.young.Young.Young}

-- a grown line is as its page says, a young one as what stands for it, and one without a page as it is drawn
unfoldable pub line_seen : {B M : ℕ} → Wear → ℕ → Option (Young B M) → Option (LifeLine B M) → LifeLine B M
line_seen wear line young (Some grown) = grown
line_seen wear line (Some young) None = grown_line wear line young
line_seen {B} {M} wear line None None = drawn_line B M wear line

-- each young page is that of a young line
pub record AreYoung {B M : ℕ} (wear : Wear) (limit : ℕ) (youths : ℕ → Option (Young B M)) : Type 0 where
  pub each : (line : ℕ) (young : Young B M) → youths line ≡ Some young → IsYoung wear limit line young
