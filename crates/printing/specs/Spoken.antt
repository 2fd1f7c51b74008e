-- What is printed, as bytes.
use Rattle.std.specs.Prelude.{ℕ, List, [], ◌∷◌, ◌++◌, codes, decimal}
use Rattle.std.specs.List.{flat_map}
use Rattle.hex.specs.Hex.{encode_lower}

-- codes in decimal with a mark between two, or - if there is none
abbrev pub listed : List ℕ → List ℕ → List ℕ
listed mark [] = codes "-"
listed mark (n ∷ ns) = decimal n ++ flat_map (λ m. mark ++ decimal m) ns

-- a row, the codes pending and the outputs
abbrev pub held_words : List ℕ → List ℕ → List ℕ → List ℕ
held_words row pending outputs =
    codes "row=" ++ (listed (codes ",") row ++ (codes " pending=" ++ (listed (codes ",") pending ++ (codes " outputs=" ++ listed (codes ",") outputs))))

-- these, and the scalars not yet taken
abbrev pub squeeze_words : List ℕ → List ℕ → List ℕ → List ℕ → List ℕ
squeeze_words row pending outputs squeeze = held_words row pending outputs ++ (codes " squeeze=" ++ listed (codes ",") squeeze)

-- bytes as two hex digits each, or - if there is none
abbrev pub hex_words : List ℕ → List ℕ
hex_words [] = codes "-"
hex_words (b ∷ bs) = encode_lower (b ∷ bs)

-- the input and the outputs
abbrev pub hash_words : List ℕ → List ℕ → List ℕ
hash_words input outputs = codes "input=" ++ (hex_words input ++ (codes " outputs=" ++ hex_words outputs))
