use Rattle.std.proofs.Common.{rules, arith}
use Rattle.played.proofs.hashes.HashChallengerShown.digest.Goals as goal

pub finalize-bytes-requires : goal.finalize-bytes-requires
finalize-bytes-requires g c = let most = (g.H.CryptographicHasher.hashing c.args.self.now.hasher).most in search rules

pub shared_whole_as_slice-hex_text : goal.shared_whole_as_slice-hex_text
shared_whole_as_slice-hex_text g c = let most = (g.H.CryptographicHasher.hashing c.args.self.now.hasher).most in omega arith
