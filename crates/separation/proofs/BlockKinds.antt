-- The three kinds of block, and separation of their turns.
use Rattle.std.proofs.Common.{◌≡◌, ℕ, ◌+◌, ◌-◌, ◌*◌, ◌/◌, ◌^◌, ◌<◌, ◌≤◌, true, ◌&&◌, ◌≢◌, List, [], ◌∷◌, length, take, nat_le, nat_lt, sym, refl, ap, ◌∙◌, arith, Some, None, Option}
use Rattle.std.specs.Prelude.{IsTrue}
use Rattle.std.proofs.lemmas.List.{take_at}
use Rattle.std.proofs.lemmas.Bool.{and_parts, leb-true, ltb-true}
use Rattle.domain.specs.declared.Domain.{Ghosts as DomainGhosts}
use Rattle.domain.specs.Codes.{all_codes}
use Rattle.permutation.specs.declared.CryptographicPermutation.{Ghosts as PermutationGhosts}
use Rattle.permutation.specs.Rows.{HasOnlyCodes, IsRow, IsLawful}
use Rattle.permutation.specs.RowsProofs.{all_codes-codes}
use Rattle.sponge.specs.declared.Sponge.{Sponge}
use Rattle.sponge.specs.Sponge.{SpongeMake, SpongeState, padded_words}
use Rattle.sponge.specs.SpongeHeld.{make_meaning}
use Rattle.sponge.specs.SameSponge.{SameSponge, is_row_of}
use Rattle.sponge.specs.SameSpongeProofs.{empty_turn-same, block_turn-same}
use Rattle.sponge.specs.SpongeHeldProofs.{sponge_row_held}
use Rattle.sponge.specs.AbsorbingProofs.{Words}
use Rattle.sponge.proofs.Turning.{sponge_row, rate_small}
use Rattle.buffer.specs.Items.{items}
use Rattle.code_bits.specs.CodeBits.{code_bits}
use Rattle.packing.specs.Powers.{limbs}
use Rattle.packing.specs.Packing.{packed_words}
use Rattle.packing.specs.PackingProofs.{limbs-some, scalar_fits, packed_words-length, packed_words-injective, packed_words-codes, groups-few}
use Rattle.sponge.specs.Tags.{Numbers, codes, scalars, words, tag_of}
use Rattle.separation.specs.Blocks.{is_list_of_codes, is_scalars_block, is_block, is_turn, words_of, after_given}
use Rattle.separation.specs.Separation.{is_one_kind, AreUnlike, IsTagRule, turn_under, UnlikeTurnsLeadToUnlikeRows, EachBlockIsWrittenUnderItsTag}
use Rattle.separation.proofs.Separating.{Blocks, none_apart, blocks_apart}
use Rattle.refusal.specs.declared.limits.TheConstants.{LONGEST_BATCH, GREATEST_SAMPLED_ORDER}

-- what the tests of a list say
module _ (order most : ℕ) (xs : List ℕ) (h : is_list_of_codes order most xs ≡ true) where
  pub list_some : 1 ≤ length xs
  list_some = leb-true 1 (length xs) (and_parts (nat_le 1 (length xs)) (nat_le (length xs) most && all_codes order xs) h).0

  rest : nat_le (length xs) most && all_codes order xs ≡ true
  rest = (and_parts (nat_le 1 (length xs)) (nat_le (length xs) most && all_codes order xs) h).1

  pub list_few : length xs ≤ most
  list_few = leb-true (length xs) most (and_parts (nat_le (length xs) most) (all_codes order xs) rest).0

  pub list_codes : HasOnlyCodes order xs
  list_codes = all_codes-codes order xs (and_parts (nat_le (length xs) most) (all_codes order xs) rest).1

module _ (sampled order rate : ℕ) (xs : List ℕ) (h : is_scalars_block sampled order rate xs ≡ true) where
  pub scalars_small : sampled ≤ GREATEST_SAMPLED_ORDER
  scalars_small = leb-true sampled GREATEST_SAMPLED_ORDER (and_parts (nat_le sampled GREATEST_SAMPLED_ORDER) _ h).0

  less_and : nat_lt sampled order && (nat_le (limbs sampled order * rate) LONGEST_BATCH && is_list_of_codes sampled (limbs sampled order * rate) xs) ≡ true
  less_and = (and_parts (nat_le sampled GREATEST_SAMPLED_ORDER) _ h).1

  pub scalars_less : sampled < order
  scalars_less = ltb-true sampled order (and_parts (nat_lt sampled order) _ less_and).0

  batch_and : nat_le (limbs sampled order * rate) LONGEST_BATCH && is_list_of_codes sampled (limbs sampled order * rate) xs ≡ true
  batch_and = (and_parts (nat_lt sampled order) _ less_and).1

  pub scalars_batch : limbs sampled order * rate ≤ LONGEST_BATCH
  scalars_batch = leb-true _ LONGEST_BATCH (and_parts (nat_le (limbs sampled order * rate) LONGEST_BATCH) _ batch_and).0

  pub scalars_list : is_list_of_codes sampled (limbs sampled order * rate) xs ≡ true
  scalars_list = (and_parts (nat_le (limbs sampled order * rate) LONGEST_BATCH) _ batch_and).1

-- lists that are equal when padded, and equally long, are equal
padded_words-same : (xs ys : List ℕ) (rate : ℕ) → length xs ≡ length ys → padded_words xs rate ≡ padded_words ys rate → xs ≡ ys
padded_words-same xs ys rate same e = sym (take_at xs _ (length xs) refl) ∙ ap (take (length xs)) e ∙ take_at ys _ (length xs) (sym same)

pub list-words : (order rate : ℕ) (xs : List ℕ) → is_list_of_codes order rate xs ≡ true → Words order rate xs
list-words order rate xs h = record { few = list_few order rate xs h; codes = list_codes order rate xs h }

-- the words that scalars are packed in
abbrev packed : (sampled order : ℕ) → List ℕ → List ℕ
packed sampled order xs = packed_words (code_bits sampled) (limbs sampled order) xs

module _ (sampled order rate : ℕ) (low : 2 ≤ sampled) (small : sampled ≤ GREATEST_SAMPLED_ORDER) (less : sampled < order) (high : order < 2 ^ 64) where
  pub packed-block : (xs : List ℕ) → is_list_of_codes sampled (limbs sampled order * rate) xs ≡ true → Words order rate (packed_words (code_bits sampled) (limbs sampled order) xs)
  packed-block xs h =
      let one = limbs-some sampled order low small less high in
      record {
        few = omega (arith, packed_words-length _ one (code_bits sampled) xs, groups-few _ one rate xs (list_few sampled (limbs sampled order * rate) xs h));
        codes = packed_words-codes sampled order low small less high xs (list_codes sampled (limbs sampled order * rate) xs h);
      }

module _ (sampled order rate : ℕ) (low : 2 ≤ sampled) (high : order < 2 ^ 64) where
  module _ (xs : List ℕ) (h : is_scalars_block sampled order rate xs ≡ true) where
    some_limbs : 1 ≤ limbs sampled order
    some_limbs = limbs-some sampled order low (scalars_small sampled order rate xs h) (scalars_less sampled order rate xs h) high

    fit : HasOnlyCodes (2 ^ code_bits sampled) xs
    fit = scalar_fits sampled order low (scalars_small sampled order rate xs h) (scalars_less sampled order rate xs h) high xs (list_codes sampled (limbs sampled order * rate) xs (scalars_list sampled order rate xs h))

    scalars-words : Words order rate (packed sampled order xs)
    scalars-words = packed-block sampled order rate low (scalars_small sampled order rate xs h) (scalars_less sampled order rate xs h) high xs (scalars_list sampled order rate xs h)

  scalars-same : (xs ys : List ℕ) → is_scalars_block sampled order rate xs ≡ true → is_scalars_block sampled order rate ys ≡ true
      → length xs ≡ length ys → padded_words (packed sampled order xs) rate ≡ padded_words (packed sampled order ys) rate → xs ≡ ys
  scalars-same xs ys hx hy same e =
      let one = some_limbs xs hx in
      let long : length (packed sampled order xs) ≡ length (packed sampled order ys) =
      packed_words-length _ one _ xs ∙ ap (λ n. (n + (limbs sampled order - 1)) / limbs sampled order) same ∙ sym (packed_words-length _ one _ ys) in
      packed_words-injective _ one (code_bits sampled) xs ys same (fit xs hx) (fit ys hy) (padded_words-same (packed sampled order xs) (packed sampled order ys) rate long e)

-- what each kind writes, and that the tags of `tag_of` obey what is asked of tags
module _ (sampled order rate : ℕ) (low : 2 ≤ sampled) (codes_low : 256 ≤ order) (high : order < 2 ^ 64) (narrow : rate < 256) where
  pub block-writes : (a : Numbers) → is_block sampled order rate a ≡ true → Words order rate (words_of sampled order a)
  block-writes (codes xs) h = list-words order rate xs h
  block-writes (scalars xs) h = scalars-words sampled order rate low high xs h
  block-writes (words xs) h = list-words order rate xs h

  pub tag-code : (a : Numbers) → is_block sampled order rate a ≡ true → tag_of a < order
  tag-code (codes xs) h = omega (arith, list_few order rate xs h)
  tag-code (scalars xs) h = omega (arith, scalars_batch sampled order rate xs h, list_few sampled (limbs sampled order * rate) xs (scalars_list sampled order rate xs h))
  tag-code (words xs) h = omega (arith, list_few order rate xs h)

  pub tag-some : (a : Numbers) → is_block sampled order rate a ≡ true → 1 ≤ tag_of a
  tag-some (codes xs) h = list_some order rate xs h
  tag-some (scalars xs) h = list_some sampled (limbs sampled order * rate) xs (scalars_list sampled order rate xs h)
  tag-some (words xs) h = list_some order rate xs h

  pub block-same : (a b : Numbers) → is_block sampled order rate a ≡ true → is_block sampled order rate b ≡ true → is_one_kind a b ≡ true
      → tag_of a ≡ tag_of b → padded_words (words_of sampled order a) rate ≡ padded_words (words_of sampled order b) rate → a ≡ b
  block-same (codes xs) (codes ys) ha hb one t e = ap codes (padded_words-same xs ys rate t e)
  block-same (scalars xs) (scalars ys) ha hb one t e = ap scalars (scalars-same sampled order rate low high xs ys ha hb t e)
  block-same (words xs) (words ys) ha hb one t e = ap words (padded_words-same xs ys rate t e)
  block-same _ _ ha hb one t e = absurd (cc)

  pub tag_of-rule : IsTagRule sampled order rate tag_of
  tag_of-rule = record { code = tag-code; not_zero = λ a h z. omega (arith, tag-some a h, z); tells = block-same }

  -- the three kinds, under any tag rule
  abbrev pub blocks : (tag : Numbers → ℕ) → IsTagRule sampled order rate tag → Blocks order rate Numbers
  blocks tag rule = record {
    is_block = is_block sampled order rate;
    is_one_kind = is_one_kind;
    words = words_of sampled order;
    tag = tag;
    writes = block-writes;
    code = rule.code;
    some = λ a h. omega (arith, rule.not_zero a h);
    same = rule.tells;
  }

module _ {order : ℕ} (sampled : ℕ) (k : SpongeMake order) where
  pub written : EachBlockIsWrittenUnderItsTag sampled k
  written row (codes []) h = absurd (omega (arith, list_some order k.rate [] h))
  written row (codes (x ∷ xs)) h = refl
  written row (scalars xs) h = refl
  written row (words xs) h = refl

  module _ (low : 2 ≤ sampled) (lawful : IsLawful order k.image) (inside : k.rate < k.width) (row : List ℕ) (is_row : IsRow order row) (wide : length row ≡ k.width) where
    across : k.rate < length row
    across = omega (arith, inside, wide)

    module _ (tag : Numbers → ℕ) (rule : IsTagRule sampled order k.rate tag) where
      abbrev all : Blocks order k.rate Numbers
      all = blocks sampled order k.rate low k.arithmetic.low k.arithmetic.high (omega (arith, across, is_row.bounded)) tag rule

      pub turns_apart : (left right : Option Numbers) → is_turn sampled order k.rate left ≡ true → is_turn sampled order k.rate right ≡ true
          → AreUnlike left right → (turn_under tag sampled k row left).row ≢ (turn_under tag sampled k row right).row
      turns_apart None None tl tr unlike e = unlike.not_same refl
      turns_apart (Some a) None tl tr unlike e = none_apart k lawful row is_row across all a tl e
      turns_apart None (Some b) tl tr unlike e = none_apart k lawful row is_row across all b tr (sym e)
      turns_apart (Some a) (Some b) tl tr unlike e = blocks_apart k lawful row is_row across all a b tl tr unlike.one_kind (λ same. unlike.not_same (ap Some same)) e

  -- a turn is the turn under the tags of `tag_of`
  pub given_under : (row : List ℕ) (given : Option Numbers) → is_turn sampled order k.rate given ≡ true → after_given sampled k row given ≡ turn_under tag_of sampled k row given
  given_under row None h = refl
  given_under row (Some block) h = written row block h

-- turns of sponges of one make, on a row that they can hold
module _ {order : ℕ} (k l : SpongeMake order) (same : SameSponge k l) (lawful : IsLawful order k.image) (row : List ℕ) (ok : IsTrue (is_row_of k row)) (sampled : ℕ) (low : 2 ≤ sampled) (narrow : k.rate < 256) where
  under_same : (given : Option Numbers) → is_turn sampled order k.rate given ≡ true → turn_under tag_of sampled k row given ≡ turn_under tag_of sampled l row given
  under_same None h = empty_turn-same k l same lawful row ok
  under_same (Some block) h =
      let d = k.arithmetic in
      block_turn-same k l same lawful row ok (words_of sampled order block) (tag_of block)
      (block-writes sampled order k.rate low d.low d.high narrow block h) (tag-code sampled order k.rate low d.low d.high narrow block h)

  pub given_same : (given : Option Numbers) → is_turn sampled order k.rate given ≡ true → is_turn sampled order l.rate given ≡ true → after_given sampled k row given ≡ after_given sampled l row given
  given_same given h g = given_under sampled k row given h ∙ under_same given h ∙ sym (given_under sampled l row given g)

module _ {D P : Type 0} {order : ℕ} {d : DomainGhosts D order} {p : PermutationGhosts P D order} (s : Sponge D P order d p) (sampled : ℕ) (low : 256 ≤ sampled) where
  rate_narrow : s.rate < 256
  rate_narrow = omega (arith, rate_small s)

  pub sponge_tags : IsTagRule sampled order s.rate tag_of
  sponge_tags = tag_of-rule sampled order s.rate (omega (arith, low)) d.arithmetic.low d.arithmetic.high rate_narrow

  pub sponge_separates : (tag : Numbers → ℕ) → IsTagRule sampled order s.rate tag → UnlikeTurnsLeadToUnlikeRows (turn_under tag sampled (make_meaning s)) sampled (make_meaning s)
  sponge_separates tag rule row is_row wide = turns_apart sampled (make_meaning s) (omega (arith, low)) (p.lawful s.permutation) s.wide row is_row wide tag rule

  -- its turns are those under the tags of `tag_of`
  pub sponge_turns_separate : UnlikeTurnsLeadToUnlikeRows (after_given sampled (make_meaning s)) sampled (make_meaning s)
  sponge_turns_separate row is_row wide left right hl hr unlike x =
      let k = make_meaning s in
      let to_left = ap (λ (u : SpongeState). u.row) (given_under sampled k row left hl) in
      let to_right = ap (λ (u : SpongeState). u.row) (given_under sampled k row right hr) in
      sponge_separates tag_of sponge_tags row is_row wide left right hl hr unlike (sym to_left ∙ x ∙ to_right)

-- two sponges of one make with equal rows, after unlike turns: `left` and `right` are the rows that they hold
module _ {D P E Q : Type 0} {order : ℕ} {d : DomainGhosts D order} {p : PermutationGhosts P D order} {e : DomainGhosts E order} {q : PermutationGhosts Q E order} (s : Sponge D P order d p) (t : Sponge E Q order e q) (sampled : ℕ) (low : 256 ≤ sampled) where
  pub rows_apart : (a b : Option Numbers) → is_turn sampled order s.rate a ≡ true → is_turn sampled order t.rate b ≡ true
      → (left right : List ℕ) → left ≡ (after_given sampled (make_meaning s) (items s.row) a).row → right ≡ (after_given sampled (make_meaning t) (items t.row) b).row
      → SameSponge (make_meaning s) (make_meaning t) → items s.row ≡ items t.row → AreUnlike a b → left ≢ right
  rows_apart a b ha hb left right l r same rows unlike x =
      let k = make_meaning s in
      let row = items s.row in
      let hb' : is_turn sampled order s.rate b ≡ true = ap (λ n. is_turn sampled order n b) same.rate ∙ hb in
      let other : after_given sampled k row b ≡ after_given sampled (make_meaning t) (items t.row) b =
      given_same k (make_meaning t) same (p.lawful s.permutation) row (sponge_row_held s) sampled (omega (arith, low)) (rate_narrow s sampled low) b hb' hb
      ∙ ap (λ xs. after_given sampled (make_meaning t) xs b) rows in
      let to_left : left ≡ (turn_under tag_of sampled k row a).row = l ∙ ap (λ (u : SpongeState). u.row) (given_under sampled k row a ha) in
      let to_right : right ≡ (turn_under tag_of sampled k row b).row = r ∙ ap (λ (u : SpongeState). u.row) (sym other ∙ given_under sampled k row b hb') in
      sponge_separates s sampled low tag_of (sponge_tags s sampled low) row (sponge_row s) s.sized a b ha hb' unlike (sym to_left ∙ x ∙ to_right)
