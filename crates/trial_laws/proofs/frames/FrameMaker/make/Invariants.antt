use Rattle.std.proofs.Common.{◌≡◌, ◌+◌, ◌*◌, length, take}
use Rattle.bit_lists.specs.Places.{joined}
use Rattle.lane_impair.specs.Noise.{state_after, word}
use Rattle.trial_laws.specs.TrialFrames.{length_of, words_of}
use Rattle.trial_laws.proofs.FrameWords.{frame_words}
use Rattle.trial_laws.proofs.frames.FrameMaker.make.Given as goal

abbrev pub invariant-loop-k : goal.invariant-loop-k
invariant-loop-k l = record {
  words : l.self-inside.words ≡ state_after (l.k + 1) l.fn.self.state;
  octets : take (8 * l.k) l.self-inside.octets ≡ joined l.k (frame_words l.fn.self.state);
  long : length l.self-inside.octets ≡ 1088;
  size : l.self-inside.size ≡ length_of l.fn.self.state;
  first : l.word ≡ word 0 l.fn.self.state;
  count : l.k-end ≡ words_of l.fn.self.state;
}
