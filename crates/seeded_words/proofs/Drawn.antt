-- Words drawn one after another.
use Rattle.std.proofs.Common.{◌≡◌, ℕ, ◌+◌, refl, add-one}
use Rattle.rand_core.specs.Stream.{Stream, next_u64}
use Rattle.seeded_words.specs.Words.{stream_after, word_at}

pub stream_after-zero : (s : Stream) → stream_after 0 s ≡ s
unfolding stream_after
stream_after-zero s = refl

pub stream_after-more : (n : ℕ) (s : Stream) → stream_after (n + 1) s ≡ (next_u64 (stream_after n s)).1
unfolding stream_after
stream_after-more n s = rw add-one refl

pub word_at-is : (n : ℕ) (s : Stream) → word_at n s ≡ (next_u64 (stream_after n s)).0
unfolding word_at
word_at-is n s = refl
