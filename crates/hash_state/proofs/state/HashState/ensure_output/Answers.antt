use Rattle.std.proofs.Common.{rules, arith}
use Rattle.hash_state.proofs.state.HashState.ensure_output.Goals as goal

pub hash-digest-requires : goal.hash-digest-requires
hash-digest-requires g c = let most = (g.H.CryptographicHasher.hashing c.args.hasher.now).most in omega arith

pub shared_whole_as_slice-replace : goal.shared_whole_as_slice-replace
shared_whole_as_slice-replace g c = let most = (g.H.CryptographicHasher.hashing c.args.hasher.now).most in omega arith

pub replace-requires : goal.replace-requires
replace-requires g c = let most = (g.H.CryptographicHasher.hashing c.args.hasher.now).most in search rules

pub invariant_of-self : goal.invariant_of-self
invariant_of-self g c = let most = (g.H.CryptographicHasher.hashing c.args.hasher.now).most in search rules

pub returns-clause-some : goal.returns-clause-some
returns-clause-some g c = let some = (g.H.CryptographicHasher.hashing c.args.hasher.now).some in omega arith
