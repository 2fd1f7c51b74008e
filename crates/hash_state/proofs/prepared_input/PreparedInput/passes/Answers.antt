use Rattle.std.proofs.Common.{arith}
use Rattle.hash_state.proofs.prepared_input.PreparedInput.passes.Goals as goal

pub hash-digest-requires : goal.hash-digest-requires
hash-digest-requires g c = let most = (g.H.CryptographicHasher.hashing c.args.hasher.now).most in omega arith

pub shared_whole_as_slice-end_word : goal.shared_whole_as_slice-end_word
shared_whole_as_slice-end_word g c = let most = (g.H.CryptographicHasher.hashing c.args.hasher.now).most in omega arith
