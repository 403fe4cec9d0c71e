-- The two formats of an image: of a small module, and of a large one, whose numbers of lines have more room.
use Rattle.std.specs.{Int.{Width, w16, w32}, Prelude.{ℕ, List, codes}}
use Rattle.module_shape.specs.{Limits.{large_limits, small_limits}, declared.raw.SizeLimits.SizeLimits}
use Rattle.pcm_image.specs.declared.Format.{Format}
use Rattle.pcm_image.specs.declared.Format.TheVariants.{Small, Large}

-- the eight bytes with which its images begin
abbrev pub magic_of : Format → List ℕ
magic_of Small = codes "PCMIMG01"
magic_of Large = codes "PCMIMG02"

-- the greatest sizes of its modules
abbrev pub sizes_of : Format → SizeLimits
sizes_of Small = small_limits
sizes_of Large = large_limits

-- how wide a number of lines is: that of a region's lines, and its registers Start and Gap
abbrev pub width_of : Format → Width
width_of Small = w16
width_of Large = w32
