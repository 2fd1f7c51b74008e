use Rattle.std.proofs.Common.{refl}
use Rattle.sponge.specs.Sponge.{row_with_block}
use Rattle.challenger_traits.specs.Grinding.{first, check_of, grind_of}
use Rattle.code_bits.specs.CodeBits.{code_bits}
use Rattle.packing.specs.Powers.{greatest_power, limbs}
use Rattle.packing.specs.Packing.{packed_words, pack}
use Rattle.multi_field_blocks.specs.Blocks.{with_outputs}
use Rattle.permutation.specs.Ladder.{ladder_step}
use Rattle.sampling.specs.Uniform.{part_of, parts_of, uniform_of}
use Rattle.byte_transcript.specs.Transcript.{word}
use Rattle.duplex_challenger.specs.Rules.{after_turn, after_code, with_output, sample_of}
use Rattle.multi_field_challenger.specs.Rules as multi
use Rattle.worked_cases.proofs.worked_cases.Goals as goal

pub returns : goal.returns
unfolding row_with_block first check_of grind_of code_bits greatest_power limbs packed_words pack with_outputs ladder_step part_of parts_of uniform_of word after_turn after_code with_output sample_of multi.after_flush multi.after_flush_if_pending multi.after_code multi.after_digest multi.after_fill multi.with_scalar multi.sample_of
returns c = record { samples = refl; sample = refl; row = refl; uniform = refl; bits = refl; ground = refl; ground_row = refl; budget = refl; vain = refl; scalars = refl; one_row = refl; word = refl; output = refl; batch = refl; long_batch = refl; too_wide = refl }
