-- Blocks on one row, under any lawful permutation: unlike ones lead to unlike rows.
use Rattle.std.proofs.Common.{◌≡◌, ℕ, ◌<◌, ◌≤◌, true, Bool, ◌≢◌, List, length, get_or, take, sym, ap, ◌∙◌, arith}
use Rattle.permutation.specs.Rows.{IsRow, IsLawful}
use Rattle.permutation.specs.AddCancelProofs.{add_cancel}
use Rattle.sponge.specs.Sponge.{SpongeMake, padded_words, row_with_block}
use Rattle.sponge.specs.AbsorbingProofs.{Words, row_with_block-length, row_with_block-front, row_with_block_tag, row_with_block-row}

-- blocks of any type: which there are, what each writes, its tag, and which are of one kind
pub record Blocks (order rate : ℕ) (A : Type 0) : Type 0 where
  pub is_block : A → Bool
  pub is_one_kind : A → A → Bool
  pub words : A → List ℕ
  pub tag : A → ℕ
  pub writes : (a : A) → is_block a ≡ true → Words order rate (words a)
  pub code : (a : A) → is_block a ≡ true → tag a < order
  pub some : (a : A) → is_block a ≡ true → 1 ≤ tag a
  pub same : (a b : A) → is_block a ≡ true → is_block b ≡ true → is_one_kind a b ≡ true → tag a ≡ tag b → padded_words (words a) rate ≡ padded_words (words b) rate → a ≡ b

module _ {order : ℕ} (k : SpongeMake order) (lawful : IsLawful order k.image) (row : List ℕ) (is_row : IsRow order row) (wide : k.rate < length row) where
  -- equal sums with cell RATE have equal tags
  same_tag : (s t : ℕ) → s < order → t < order → k.arithmetic.add (get_or row k.rate 0) s ≡ k.arithmetic.add (get_or row k.rate 0) t → s ≡ t
  same_tag s t cs ct e =
      let d = k.arithmetic in
      let x = get_or row k.rate 0 in
      let hx = is_row.codes k.rate wide in
      add_cancel d s t x cs ct hx (d.laws.comm s x cs hx ∙ e ∙ d.laws.comm x t hx ct)

  -- two blocks that lead to one row wrote the same words, but for zeros behind them, under the same tag
  same_block : (p q : List ℕ) (s t : ℕ) → Words order k.rate p → Words order k.rate q → s < order → t < order
      → k.image (row_with_block k row p s) ≡ k.image (row_with_block k row q t) → (s ≡ t) × (padded_words p k.rate ≡ padded_words q k.rate)
  same_block p q s t wp wq cs ct e =
      let same : row_with_block k row p s ≡ row_with_block k row q t =
      lawful.injective _ _ (row_with_block-row k row is_row wide p s wp cs) (row_with_block-row k row is_row wide q t wq ct)
      (row_with_block-length k row is_row wide p s wp.few ∙ sym (row_with_block-length k row is_row wide q t wq.few)) e in (
        same_tag s t cs ct (sym (row_with_block_tag k row is_row wide p s wp.few) ∙ ap (λ xs. get_or xs k.rate 0) same ∙ row_with_block_tag k row is_row wide q t wq.few),
        sym (row_with_block-front k row is_row wide p s wp.few) ∙ ap (take k.rate) same ∙ row_with_block-front k row is_row wide q t wq.few,
      )

  -- no block leads where an empty turn leads
  some_block : (p : List ℕ) (s : ℕ) → Words order k.rate p → s < order → 1 ≤ s → k.image (row_with_block k row p s) ≢ k.image row
  some_block p s w code some e =
      let same : row_with_block k row p s ≡ row = lawful.injective _ _ (row_with_block-row k row is_row wide p s w code) is_row (row_with_block-length k row is_row wide p s w.few) e in
      let cell : k.arithmetic.add (get_or row k.rate 0) s ≡ k.arithmetic.add (get_or row k.rate 0) 0 =
      sym (row_with_block_tag k row is_row wide p s w.few) ∙ ap (λ xs. get_or xs k.rate 0) same ∙ sym (k.arithmetic.laws.neutral _ (is_row.codes k.rate wide)) in
      let z : s ≡ 0 = same_tag s 0 code (omega arith) cell in
      omega arith

  module _ {A : Type 0} (blocks : Blocks order k.rate A) where
    abbrev pub row_after : A → List ℕ
    row_after a = k.image (row_with_block k row (blocks.words a) (blocks.tag a))

    pub none_apart : (a : A) → blocks.is_block a ≡ true → row_after a ≢ k.image row
    none_apart a h = some_block (blocks.words a) (blocks.tag a) (blocks.writes a h) (blocks.code a h) (blocks.some a h)

    pub blocks_apart : (a b : A) → blocks.is_block a ≡ true → blocks.is_block b ≡ true → blocks.is_one_kind a b ≡ true → a ≢ b → row_after a ≢ row_after b
    blocks_apart a b ha hb one ne e =
        let same = same_block (blocks.words a) (blocks.words b) (blocks.tag a) (blocks.tag b) (blocks.writes a ha) (blocks.writes b hb) (blocks.code a ha) (blocks.code b hb) e in
        ne (blocks.same a b ha hb one same.0 same.1)
