-- What a list of bytes in memory stands for.
use Rattle.std.specs.Prelude.{ℕ, List, take}
use Rattle.hash_state.specs.declared.byte_list.ByteList.{ByteList}

abbrev pub bytes_of : ByteList → List ℕ
bytes_of b = take b.count b.cells
