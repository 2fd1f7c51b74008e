-- The definitions that the contracts of the challengers cite, of the crates below.
pub use Rattle.refusal.specs.declared.Refusal
pub use Rattle.hashers.specs.declared.Hasher
pub use Rattle.runs.specs.declared.call.Call
pub use Rattle.runs.specs.declared.answer.Answer
pub use Rattle.duplex_challenger.specs.declared.held.DuplexHeld
pub use Rattle.multi_field_challenger.specs.declared.held.MultiHeld
pub use Rattle.hash_state.specs.declared.held.HashHeld
pub use Rattle.permutation.specs.declared.choice.Permutation
pub use Rattle.sponge.specs.declared.parameters.Parameters
pub use Rattle.permutation.specs.declared.ladder.Ladder as LadderType
pub use Rattle.permutation.specs.declared.mirror.Mirror as MirrorType
pub use Rattle.sha256.specs.declared.as_hasher.Sha256 as Sha256Type
pub use Rattle.sha3.specs.declared.Sha3_256 as Sha3Type
pub use Rattle.separation.specs.declared.block.Block
pub use Rattle.agreement.specs.declared.ends.Ends as EndsType
pub use Rattle.agreement.specs.declared.ends.Rehearsal
pub use Rattle.agreement.specs.declared.across.Across
pub use Rattle.refusal.specs.Numbers
pub use Rattle.refusal.specs.Made
pub use Rattle.refusal.specs.Spoken as RefusalSpoken
pub use Rattle.domain.specs.declared.orders.TheConstants as Orders
pub use Rattle.refusal.specs.declared.limits.TheConstants as Limits
pub use Rattle.buffer.specs.declared.TheConstants as BufferLimits
pub use Rattle.hasher.specs.declared.TheConstants as HasherLimits
pub use Rattle.domain.specs.Arithmetic
pub use Rattle.domain.specs.Modular
pub use Rattle.domain.specs.SameArithmetic
pub use Rattle.domain.specs.Codes
pub use Rattle.permutation.specs.Rows
pub use Rattle.permutation.specs.Ladder
pub use Rattle.permutation.specs.Choice as PermutationChoice
pub use Rattle.permutation.specs.SameImages
pub use Rattle.buffer.specs.Items
pub use Rattle.sponge.specs.Tags
pub use Rattle.sponge.specs.Sponge
pub use Rattle.sponge.specs.SpongeHeld
pub use Rattle.sponge.specs.SameSponge
pub use Rattle.challenger_traits.specs.Meaning
pub use Rattle.challenger_traits.specs.Grinding
pub use Rattle.challenger_traits.specs.Observing
pub use Rattle.runs.specs.Runs
pub use Rattle.runs.specs.Answers
pub use Rattle.runs.specs.Interface
pub use Rattle.runs.specs.Lent
pub use Rattle.runs.specs.Spoken as RunsSpoken
pub use Rattle.sampling.specs.Draws
pub use Rattle.sampling.specs.Uniform
pub use Rattle.code_bits.specs.CodeBits
pub use Rattle.packing.specs.Powers
pub use Rattle.byte_transcript.specs.Transcript
pub use Rattle.byte_transcript.specs.Encoding
pub use Rattle.byte_transcript.specs.SameTranscript
pub use Rattle.hasher.specs.Hashing
pub use Rattle.hasher.specs.SameDigests
pub use Rattle.hashers.specs.Choice as HasherChoice
pub use Rattle.sha256.specs.Sha256
pub use Rattle.sha3.specs.Sha3
pub use Rattle.duplex_challenger.specs.Rules as DuplexRules
pub use Rattle.duplex_challenger.specs.Holds as DuplexHolds
pub use Rattle.duplex_challenger.specs.Calls as DuplexCalls
pub use Rattle.duplex_challenger.specs.Bytes as DuplexBytes
pub use Rattle.multi_field_challenger.specs.Rules as MultiFieldRules
pub use Rattle.multi_field_challenger.specs.Holds as MultiFieldHolds
pub use Rattle.multi_field_challenger.specs.Calls as MultiFieldCalls
pub use Rattle.hash_state.specs.Rules as HashRules
pub use Rattle.hash_challenger.specs.Holds as HashHolds
pub use Rattle.hash_challenger.specs.Meaning as HashMeaning
pub use Rattle.hash_challenger.specs.Calls as HashCalls
pub use Rattle.serializing_challenger.specs.Rules as SerializingRules
pub use Rattle.serializing_challenger.specs.Calls as SerializingCalls
pub use Rattle.agreement.specs.Ends
pub use Rattle.separation.specs.Blocks as SeparationBlocks
pub use Rattle.separation.specs.Separation
pub use Rattle.separation.specs.Given
pub mod Usual
