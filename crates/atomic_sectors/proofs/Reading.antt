-- The lines of a sector, as they are read from its block.
use Rattle.std.proofs.Common.{◌≡◌, ℕ, ◌+◌, ◌*◌, ◌<◌, List, [], length, get_or, sym, ◌∙◌, ap, arith, Result, Ok, Err, OnOk}
use Rattle.atomic_sectors.specs.{Lines.{Write, stand}, Sectors.{StandFrom, block_of, sector_line}, declared.layout.Layout.Layout}

pub reads_sector : {A F : Type 0} (n : ℕ) (layout : Layout) (old mid : List Write) (sector b : ℕ) (to : List (List ℕ)) (result : Result A F)
    → b ≡ block_of n layout (stand n old) sector → mid ≡ old → length to ≡ layout.block
    → OnOk result (StandFrom n (b * layout.block) to mid)
    → OnOk result ((i : ℕ) → i < layout.block → get_or to i [] ≡ sector_line n layout (stand n old) sector i)
reads_sector n layout old mid sector b to (Err why) block same whole stands = tt
reads_sector n layout old mid sector b to (Ok done) block same whole stands = λ i within.
    sym (stands i (omega (arith, whole, within))) ∙ ap (λ (ws : List Write). stand n ws (b * layout.block + i)) same
    ∙ ap (λ q. stand n old (q * layout.block + i)) block
