-- Why a script is not rehearsed, in words, as bytes.
use Rattle.std.specs.Prelude.{ℕ, List, ◌++◌, Some, Option, codes, decimal}
use Rattle.std.specs.Option.{option_map}
use Rattle.script.specs.Spoken.{fault_words}
use Rattle.player.specs.declared.side_by_side.Stop.{Stop}
use Rattle.player.specs.declared.side_by_side.Stop.TheVariants.{Unreadable, Memory}

abbrev pub stop_words : Stop → Option (List ℕ)
stop_words (Unreadable line fault) = option_map (λ words. codes "line " ++ (decimal line ++ (codes ": " ++ words))) (fault_words fault)
stop_words Memory = Some (codes "there is not enough memory")
