-- Worked examples: a small module after five moves, three lines of a larger one, also where its banks have
-- control lines, and a full turn of four lines.
use Rattle.std.proofs.Common.{◌≡◌, refl}
use Rattle.std.specs.{Fmt.digits, Prelude.codes}
use Rattle.rand_core.specs.{Steps.stream_of, Stream.next_u64}
use Rattle.seeded_words.specs.Words.{stream_after, word_at}
use Rattle.bank_shape.specs.declared.Home.TheVariants.{Guarded, Array}
use Rattle.rotation_reports.specs.{MapText.{map_text, map_row}, MovesText.moves_text, declared.line_rows.MapOptions.MapOptions}

abbrev small : MapOptions
small = record { banks = 1; regions = 1; lines = 4; spares = 2; seed = 0; moves = 5; home = Guarded }

abbrev larger : MapOptions
larger = record { banks = 2; regions = 2; lines = 4; spares = 1; seed = 0; moves = 0; home = Guarded }

abbrev in_array : MapOptions
in_array = record larger { home = Array }

small_map : map_text small ≡ codes "line,bank,region,offset,place,array\n0,0,0,3,0,0\n1,0,0,1,2,2\n2,0,0,2,3,3\n3,0,0,0,1,1\n"
unfolding digits next_u64 stream_of stream_after word_at
small_map = refl

larger_first : map_row larger 0 ≡ codes "0,0,1,1,1,6\n"
unfolding digits next_u64 stream_of stream_after word_at
larger_first = refl

larger_middle : map_row larger 8 ≡ codes "8,1,1,1,1,17\n"
unfolding digits next_u64 stream_of stream_after word_at
larger_middle = refl

larger_last : map_row larger 15 ≡ codes "15,1,0,2,2,13\n"
unfolding digits next_u64 stream_of stream_after word_at
larger_last = refl

in_array_middle : map_row in_array 8 ≡ codes "8,1,1,1,1,21\n"
unfolding digits next_u64 stream_of stream_after word_at
in_array_middle = refl

in_array_last : map_row in_array 15 ≡ codes "15,1,0,2,2,17\n"
unfolding digits next_u64 stream_of stream_after word_at
in_array_last = refl

full_turn : moves_text 4 7 ≡ codes "move,line,from,to\n7,0,1,2\n8,3,0,1\n9,2,4,0\n10,1,3,4\n11,0,2,3\n12,3,1,2\n13,2,0,1\n14,1,4,0\n15,0,3,4\n16,3,2,3\n17,2,1,2\n18,1,0,1\n19,0,4,0\n20,3,3,4\n21,2,2,3\n22,1,1,2\n23,0,0,1\n24,3,4,0\n25,2,3,4\n26,1,2,3\n"
unfolding digits
full_turn = refl
