-- What is shown of the image of a large module, and why nothing is.
use Rattle.std.specs.Prelude.{◌≡◌, ℕ, ◌==◌, if◌then◌else◌, List, [], ◌++◌, Result, Ok, Err}
use Rattle.rotation_reports.specs.Rows.{rows_from}
use Rattle.pcm_image.specs.{Reading.{◌>>=◌}, Saved.{Saved, total_in}, Standing.stands_for, declared.ImageFault.ImageFault}
use Rattle.large_image.specs.Spelling.{are_zero}
use Rattle.large_reader.specs.Reading.{large_of, size_of}
use Rattle.program_calls.specs.Calls.{Gets, GetsPart, Lent, SinkChange, SourceChange}
use Rattle.pcm_top.specs.{Ends.{Ends, Reads}, Reading.{ReadsWhole, NeverFails, SourceFails, TakesMore, TakesSome, trace_room}, Showing.{shown_header, shown_row}}
use Rattle.pcm_top.specs.{declared.fault.Fault.Fault, declared.fault.Fault.TheVariants.{Usage, Trace, Results, Image, Read, Write, TooLong, NoMemory}}

-- the row of a line, where a byte of it isn't 0
abbrev pub touched_row : (ℕ → List ℕ) → ℕ → List ℕ
touched_row bytes_of line = if are_zero (bytes_of line) then [] else shown_row bytes_of line

-- the text of a saved module whose lines have e error-correcting pointers: a row for each line of which a byte isn't 0, with its newest bytes
abbrev pub large_text : {B M : ℕ} → ℕ → Saved B M → List ℕ
large_text e saved = shown_header ++ rows_from (touched_row (stands_for e saved)) 0 (total_in saved.head)

-- reading it gives that
abbrev pub text_with : {B M : ℕ} → ℕ → Saved B M → Result (List ℕ) ImageFault
text_with e saved = Ok (large_text e saved)

-- the text of an image's bytes over lines of B bytes, or the first field that fails
abbrev pub shown_as : (B M e : ℕ) → List ℕ → Result (List ℕ) ImageFault
shown_as B M e bytes = large_of B M bytes >>= text_with e

-- lines of 64 bytes have 8 check bytes and 6 pointers, those of 128 have 16 and 8
abbrev pub shown_with : List ℕ → ℕ → Result (List ℕ) ImageFault
shown_with bytes size = if size == 64 then shown_as 64 8 6 bytes else shown_as 128 16 8 bytes

-- what is shown of an image's bytes, whatever the size of its lines
unfoldable pub shown_of : List ℕ → Result (List ℕ) ImageFault
shown_of bytes = size_of bytes >>= shown_with bytes

-- an image may have as many bytes as a trace over lines of this many: 2,047 MiB
abbrev pub room_line : ℕ
room_line = 2047

-- the source was read to its end, its bytes are an image, and this is its text
pub record ReadsImage (s : SourceChange) (text : List ℕ) : Type 0 where
  pub bytes : List ℕ
  pub whole : ReadsWhole room_line s bytes
  pub shown : shown_of bytes ≡ Ok text

-- exactly the text of the image was written
abbrev pub ShowsImage : SourceChange → SinkChange → Type 0
ShowsImage s out = (text : List ℕ) × ReadsImage s text × Gets out text

-- first bytes of the text of the image were written
abbrev pub ShowsImageInPart : SourceChange → SinkChange → Type 0
ShowsImageInPart s out = (text : List ℕ) × ReadsImage s text × GetsPart out text

-- why nothing is shown: the source was read to its end and a field of its bytes fails; or it failed; or it gave too many bytes; or memory
-- ran out, and no call failed
abbrev pub IsShowFault : Fault → SourceChange → Type 0
IsShowFault (Image f) s = (bytes : List ℕ) × ReadsWhole room_line s bytes × (shown_of bytes ≡ Err f)
IsShowFault Read s = SourceFails s × TakesSome room_line s
IsShowFault TooLong s = NeverFails s × TakesMore room_line s
IsShowFault NoMemory s = NeverFails s × TakesSome room_line s
IsShowFault Usage s = ⊥
IsShowFault (Trace f) s = ⊥
IsShowFault (Results row) s = ⊥
IsShowFault Write s = ⊥

-- how an image is read and shown
pub record EndsShow {T K : Type 0} (source : SourceChange) (out : Lent K SinkChange) (result : Result T Fault) : Type 0 where
  pub ends : Ends (λ done. ShowsImage source out.seen) (ShowsImageInPart source out.seen) (λ fault. IsShowFault fault source) out result
  pub reads : Reads (trace_room room_line) source result
