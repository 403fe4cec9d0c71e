-- How long the image of a module is.
use Rattle.std.specs.Prelude.{ℕ, ◌+◌, ◌*◌, ◌≤◌, length}
use Rattle.pcm_image.specs.{Saved.{IsSaved, Saved}, Spelling.image_bytes}

-- the most bytes of an image, 14,905,192: 24 of a module's numbers, 42,085 of each of 16 banks, and 144 of each of 98,832 array lines
abbrev pub most_image : ℕ
most_image = 24 + 16 * 42085 + 98832 * 144

-- the image of a module whose numbers are in range, over lines of at most 128 bytes and 16 check bytes, has no more
abbrev pub ShortImageLaw : Type 0
ShortImageLaw = (n m : ℕ) (s : Saved n m) → n ≤ 128 → m ≤ 16 → IsSaved s → length (image_bytes s) ≤ most_image
