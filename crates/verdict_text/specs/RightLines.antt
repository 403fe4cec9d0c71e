-- What is told to be right for a row, a line each.
use Rattle.std.specs.Prelude.{ℕ, List, [], ◌∷◌, ◌++◌, codes, decimal, Bool, false, ◌&&◌, ◌||◌, nat_le, nat_lt, if◌then◌else◌, Option, Some, None}
use Rattle.hex.specs.Hex.{encode_lower}
use Rattle.check_telling.specs.{declared.facts.RowAt.RowAt, declared.facts.StoreBound.StoreBound, declared.grounds.Grounds.Grounds}
use Rattle.clause_telling.specs.declared.room.Crowd.{Crowd}
use Rattle.verdict_telling.specs.Offers.{Offer, Stores, Read, Lost, Busy, Forwarded, Stored, Merged, Queued, Full, Worn, Cut, can_forward, can_read, can_refuse, may_wait}

-- the bytes of an answer, at the end of a line
abbrev pub data_end : List ℕ → List ℕ → List ℕ
data_end text bytes = text ++ codes ", data " ++ encode_lower bytes ++ codes "\n"

-- the ticks from which and to which a read is right, and those of some that are within these
abbrev pub span_on : List ℕ → ℕ → ℕ → List ℕ
span_on text from to = text ++ codes "  right  read " ++ decimal from ++ codes " to " ++ decimal to

abbrev pub but_on : List ℕ → ℕ → ℕ → List ℕ → List ℕ
but_on text from to [] = text
but_on text from to (tick ∷ rest) =
    but_on (if nat_le from tick && nat_le tick to then text ++ codes ", but " ++ decimal tick else text) from to rest

-- ticks, each behind a space
abbrev pub ticks_on : List ℕ → List ℕ → List ℕ
ticks_on text [] = text
ticks_on text (tick ∷ rest) = ticks_on (text ++ codes " " ++ decimal tick) rest

-- by when a write is stored: its tick, how long it takes alone, and how much longer with what its bank does by then
abbrev pub bound_on : List ℕ → ℕ → StoreBound → List ℕ
bound_on text tick bound =
    text ++ codes "  right  stored behind " ++ decimal tick ++ codes " by " ++ decimal tick ++ codes " + " ++ decimal bound.alone
    ++ codes " + " ++ decimal bound.a_store ++ codes " for each further store, " ++ decimal bound.a_read ++ codes " for each read and "
    ++ decimal bound.a_cut ++ codes " for each cut behind it"

-- below a tick, a distance from some, and at none of others
abbrev pub below_on : List ℕ → Option ℕ → List ℕ
below_on text None = text
below_on text (Some tick) = text ++ codes ", below " ++ decimal tick

abbrev pub apart_on : List ℕ → ℕ → List ℕ → List ℕ
apart_on text distance [] = text
apart_on text distance (tick ∷ rest) = ticks_on (text ++ codes ", " ++ decimal distance ++ codes " apart from") (tick ∷ rest)

abbrev pub not_on : List ℕ → List ℕ → List ℕ
not_on text [] = text
not_on text (tick ∷ rest) = ticks_on (text ++ codes ", not at") (tick ∷ rest)

abbrev pub stored_on : List ℕ → Stores → List ℕ
stored_on text s = not_on (apart_on (below_on (bound_on text s.behind s.bound) s.below) s.distance s.far) s.but ++ codes "\n"

-- an outcome at one tick
abbrev pub at_on : List ℕ → List ℕ → ℕ → List ℕ
at_on text words tick = text ++ words ++ decimal tick

-- a line
abbrev pub offer_on : List ℕ → Offer → List ℕ
offer_on text (Read from to but bytes) = data_end (but_on (span_on text from to) from to but) bytes
offer_on text (Lost tick) = at_on text (codes "  right  lost ") tick ++ codes "\n"
offer_on text (Busy tick) = at_on text (codes "  right  busy ") tick ++ codes "\n"
offer_on text (Forwarded tick bytes) = data_end (at_on text (codes "  right  forwarded ") tick) bytes
offer_on text (Stored s) = stored_on text s
offer_on text (Merged tick) = at_on text (codes "  right  merged ") tick ++ codes "\n"
offer_on text (Queued tick) = at_on text (codes "  right  queued ") tick ++ codes "\n"
offer_on text (Full tick) = at_on text (codes "  right  full ") tick ++ codes "\n"
offer_on text (Worn tick) = at_on text (codes "  right  worn ") tick ++ codes "\n"
offer_on text (Cut tick) = at_on text (codes "  right  cut ") tick ++ codes "\n"

-- lines
abbrev pub offers_on : List ℕ → List Offer → List ℕ
offers_on text [] = text
offers_on text (line ∷ rest) = offers_on (offer_on text line) rest

-- or that there are none
abbrev pub lines_on : List ℕ → List Offer → List ℕ
lines_on text [] = text ++ codes "  right  none\n"
lines_on text (line ∷ rest) = offers_on text (line ∷ rest)

-- or by which bank: it holds more than it may
abbrev pub right_on : {n : ℕ} → List ℕ → Option (Crowd n) → List Offer → List ℕ
right_on text None lines = lines_on text lines
right_on text (Some crowd) lines = text ++ codes "  right  none: bank " ++ decimal crowd.bank ++ codes " has no room as it comes\n"

-- ---- whether a read has a line

-- a cut comes before a read has to be read
abbrev pub cuts_off : ℕ → Option RowAt → Bool
cuts_off by None = false
cuts_off by (Some cut) = nat_lt cut.tick by

abbrev pub can_lose : {n : ℕ} → Grounds n → Bool
can_lose g = may_wait g && cuts_off g.by g.cut

abbrev pub some_line : {n : ℕ} → Grounds n → Bool
some_line g = can_read g || (can_lose g || (can_refuse g || can_forward g))
