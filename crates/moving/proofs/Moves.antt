-- Records moved within one list: where they stand, down (the first first) and up (the last first).
-- Assumes nothing.
use Rattle.std.specs.List.{copy_within}
use Rattle.std.proofs.Common.{subst, get_or-set_same, length-append, append_assoc, ◌-◌, ◌≡◌, ℕ, zero, suc, ◌+◌, ◌*◌, ◌<◌, ◌≤◌, List, [], ◌∷◌, ◌++◌, length, get_or, set, take, drop, sym, refl, ap, ◌∙◌, append-nil, add-zero, add-suc, suc-add, mul-le-mul_left, zero-add, arith, length-set, length-drop}
use Rattle.std.proofs.lemmas.List.{set-set}
use lib.Seq.{sets, sets-eq, paste, set-get_or, ext_get_or, get_or-take, get_or-drop, length-take-le, take_at, drop_at}
use Rattle.laws.specs.Blocks.{blocks, table}
use Rattle.laws.proofs.Below.{entry}
use Rattle.laws.proofs.Sets.{sets_append, sets_before, blocks-same, blocks_from, blocks_append, blocks_length, get_or_sets_above, get_or_sets_below}
use Rattle.rules.specs.Records.{line_size, token_size}
use Rattle.moving.specs.Moved.{word_values, shifted, words, moved_record, moved_token, moved_line}

-- Words.

table_length : (f : ℕ → ℕ) (i n : ℕ) → length (table f i n) ≡ n
table_length f i zero = refl
table_length f i (suc n) = ap suc (table_length f (suc i) n)

table_same : (f g : ℕ → ℕ) (i n : ℕ) → ((t : ℕ) → t < i + n → f t ≡ g t) → table f i n ≡ table g i n
table_same f g i zero h = refl
table_same f g i (suc n) h =
    ap (λ (x : ℕ). x ∷ table f (suc i) n) (h i (omega arith)) ∙ ap (λ (r : List ℕ). g i ∷ r) (table_same f g (suc i) n (λ t v. h t (omega arith)))

pub length_words : (ws : List ℕ) (i n : ℕ) → length (words ws i n) ≡ n
unfolding words
length_words ws i n = table_length (λ t. get_or ws (i + t) 0) 0 n

words-at : (ws : List ℕ) (i n t : ℕ) → t < n → get_or (words ws i n) t 0 ≡ get_or ws (i + t) 0
unfolding words
words-at ws i n t h = entry (λ t. get_or ws (i + t) 0) n t 0 h

-- the same words at another place of another list
words_same : (ws l : List ℕ) (i k n : ℕ) → ((t : ℕ) → t < n → get_or ws (i + t) 0 ≡ get_or l (k + t) 0) → words ws i n ≡ words l k n
unfolding words
words_same ws l i k n h = table_same (λ t. get_or ws (i + t) 0) (λ t. get_or l (k + t) 0) 0 n (λ t v. h t (omega arith))

-- words are a part of the list
pub words_take : (ws : List ℕ) (i n : ℕ) → i + n ≤ length ws → words ws i n ≡ take n (drop i ws)
words_take ws i n h =
    ext_get_or 0 (words ws i n) (take n (drop i ws)) (length_words ws i n ∙ sym (length-take-le n (drop i ws) (omega (arith, length-drop i ws))))
    (λ t v. words-at ws i n t (omega (arith, length_words ws i n)) ∙ sym (get_or-take n (drop i ws) t 0 (omega (arith, length_words ws i n)) ∙ get_or-drop i ws t 0))

-- a read within a run of stores
get_or_sets_in : (vs l : List ℕ) (i t : ℕ) → t < length vs → i + length vs ≤ length l → get_or (sets l i vs) (i + t) 0 ≡ get_or vs t 0
get_or_sets_in [] l i t h k = absurd (omega arith)
get_or_sets_in (v ∷ vs) l i zero h k =
    ap (λ (n : ℕ). get_or (sets (set l i v) (suc i) vs) n 0) (add-zero i)
    ∙ get_or_sets_below vs (set l i v) (suc i) i 0 (omega arith)
    ∙ get_or-set_same l i v 0 (omega arith)
get_or_sets_in (v ∷ vs) l i (suc t) h k =
    ap (λ (n : ℕ). get_or (sets (set l i v) (suc i) vs) n 0) (add-suc i t ∙ sym (suc-add i t))
    ∙ get_or_sets_in vs (set l i v) (suc i) t (omega arith) (omega (arith, length-set l i v))

-- one run over another of the same length
sets_again : (vs ws l : List ℕ) (i : ℕ) → length vs ≡ length ws → i + length vs ≤ length l → sets (sets l i vs) i ws ≡ sets l i ws
sets_again vs ws l i e h =
    let rest : List ℕ = drop (i + length vs) l in
    let n : length (take i l) ≡ i = length-take-le i l (omega arith) in
    let m : length (take i l ++ vs) ≡ i + length ws = length-append (take i l) vs ∙ omega arith in
    ap (λ (k : List ℕ). sets k i ws) (sets-eq vs l i h)
    ∙ sets-eq ws ((take i l ++ vs) ++ rest) i (omega (arith, length-append (take i l ++ vs) rest))
    ∙ ap (λ (k : List ℕ). (k ++ ws) ++ drop (i + length ws) ((take i l ++ vs) ++ rest)) (ap (take i) (append_assoc (take i l) vs rest) ∙ take_at (take i l) (vs ++ rest) i n)
    ∙ ap (λ (k : List ℕ). (take i l ++ ws) ++ k) (drop_at (take i l ++ vs) rest (i + length ws) m ∙ ap (λ (k : ℕ). drop (i + k) l) e)
    ∙ sym (sets-eq ws l i (omega arith))

-- words stored where they stand
sets_words : (l : List ℕ) (i n : ℕ) → sets l i (words l i n) ≡ l
unfolding words
sets_words l i n = ap (λ (k : ℕ). sets l k (words l i n)) (sym (add-zero i)) ∙ go 0 n
  where
    go : (s n : ℕ) → sets l (i + s) (table (λ t. get_or l (i + t) 0) s n) ≡ l
    go s zero = refl
    go s (suc n) =
        ap (λ (k : List ℕ). sets k (suc (i + s)) (table (λ t. get_or l (i + t) 0) (suc s) n)) (set-get_or l (i + s) 0)
        ∙ ap (λ (k : ℕ). sets l k (table (λ t. get_or l (i + t) 0) (suc s) n)) (sym (add-suc i s))
        ∙ go (suc s) n

-- a word of a run that was stored, stored again
set_in : (vs l : List ℕ) (i k v : ℕ) → k < length vs → set (sets l i vs) (i + k) v ≡ sets l i (set vs k v)
set_in [] l i k v h = absurd (omega arith)
set_in (x ∷ vs) l i zero v h =
    let e : suc i ≡ i + 1 = omega arith in
    ap (λ (n : ℕ). set (sets (set l i x) (suc i) vs) n v) (add-zero i)
    ∙ ap (λ (n : ℕ). set (sets (set l i x) n vs) i v) e
    ∙ sets_before (v ∷ []) vs (set l i x) i
    ∙ ap (λ (k : List ℕ). sets k (suc i) vs) (set-set l i x v)
set_in (x ∷ vs) l i (suc k) v h =
    ap (λ (n : ℕ). set (sets (set l i x) (suc i) vs) n v) (add-suc i k ∙ sym (suc-add i k)) ∙ set_in vs (set l i x) (suc i) k v (omega arith)

-- One record.

-- a record is w words, made of the w words at its place
pub record Width (w : ℕ) (g : List ℕ → ℕ → List ℕ) : Type 0 where
  pub wide : (ws : List ℕ) (i : ℕ) → length (g ws i) ≡ w
  pub near : (ws l : List ℕ) (i k : ℕ) → ((t : ℕ) → t < w → get_or ws (i + t) 0 ≡ get_or l (k + t) 0) → g ws i ≡ g l k

module _ (size a b d e : ℕ) (a_in : a < size) (b_in : b < size) where
  pub record_width : Width size (moved_record size a b d e)
  unfolding moved_record
  record_width =
      record {
        wide = λ ws i.
            let vs : List ℕ = words ws i size in
            let x : ℕ = shifted d (get_or ws (i + a) 0) in
            length-set (set vs a x) b (shifted e (get_or ws (i + b) 0)) ∙ length-set vs a x ∙ length_words ws i size;
        near = λ ws l i k h. λ t. set (set (words_same ws l i k size h t) a (shifted d (h a a_in t))) b (shifted e (h b b_in t));
      }

  -- two of its words shifted where it stands
  pub record_shifted : (l : List ℕ) (at x y : ℕ) → x ≡ shifted d (get_or l (at + a) 0) → y ≡ shifted e (get_or l (at + b) 0)
      → set (set l (at + a) x) (at + b) y ≡ sets l at (moved_record size a b d e l at)
  unfolding moved_record
  record_shifted l at x y ex ey =
      let vs : List ℕ = words l at size in
      let n = length_words l at size in
      ap (λ (k : List ℕ). set (set k (at + a) x) (at + b) y) (sym (sets_words l at size))
      ∙ ap (λ (k : List ℕ). set k (at + b) y) (set_in vs l at a x (omega (arith, n)))
      ∙ set_in (set vs a x) l at b y (omega (arith, n, length-set vs a x))
      ∙ (λ t. sets l at (set (set vs a (ex t)) b (ey t)))

  -- a move by nothing
  pub record_kept : (l : List ℕ) → ((i : ℕ) → get_or l i 0 < word_values) → d ≡ 0 → e ≡ 0 → (i : ℕ) → moved_record size a b d e l i ≡ words l i size
  unfolding moved_record shifted
  record_kept l small ed ee i =
      let vs : List ℕ = words l i size in
      ap (λ (x : ℕ). set (set vs a x) b (shifted e (get_or l (i + b) 0))) (unshifted d a ed a_in)
      ∙ ap (λ (k : List ℕ). set k b (shifted e (get_or l (i + b) 0))) (set-get_or vs a 0)
      ∙ ap (λ (x : ℕ). set vs b x) (unshifted e b ee b_in)
      ∙ set-get_or vs b 0
    where
      unshifted : (by k : ℕ) → by ≡ 0 → k < size → shifted by (get_or l (i + k) 0) ≡ get_or (words l i size) k 0
      unshifted by k h v = omega (arith, small (i + k), words-at l i size k v)

-- a part of a list copied over another part of it
pub words_copied : (l : List ℕ) (s d n : ℕ) → s + n ≤ length l → d + n ≤ length l → copy_within l s (s + n) d ≡ sets l d (words l s n)
words_copied l s d n from to =
    let e : s + n - s ≡ n = omega arith in
    let vs : List ℕ = take n (drop s l) in
    let long : length vs ≡ n = length-take-le n (drop s l) (omega (arith, length-drop s l)) in
    (λ t. paste l d (drop s l) (e t))
    ∙ ap (λ (k : ℕ). take d l ++ vs ++ drop (d + k) l) (sym long)
    ∙ sym (sets-eq vs l d (omega (arith, long)))
    ∙ ap (sets l d) (sym (words_take l s n from))

-- Records one after the other.

module _ {w : ℕ} {g : List ℕ → ℕ → List ℕ} (r : Width w g) (l : List ℕ) where
  -- n records' words brought from record s to record d, then made records there
  pub all_brought : (ws : List ℕ) (s d n : ℕ) → w * (d + n) ≤ length l → ws ≡ sets l (w * d) (words l (w * s) (w * n))
      → sets ws (w * d) (blocks (λ j. g ws (w * (d + j))) 0 n) ≡ sets l (w * d) (blocks (λ j. g l (w * (s + j))) 0 n)
  all_brought ws s d n h e =
      let m = length_words l (w * s) (w * n) in
      let new : List ℕ = blocks (λ j. g l (w * (s + j))) 0 n in
      ap (sets ws (w * d)) (blocks-same (λ j. g ws (w * (d + j))) (λ j. g l (w * (s + j))) 0 n (λ j v. r.near ws l (w * (d + j)) (w * (s + j)) (word j (omega arith))))
      ∙ ap (λ (k : List ℕ). sets k (w * d) new) e
      ∙ sets_again (words l (w * s) (w * n)) new l (w * d) (m ∙ omega (arith, blocks_length (λ j. g l (w * (s + j))) w (λ j. r.wide l (w * (s + j))) 0 n)) (omega arith)
    where
      word : (j : ℕ) → j + 1 ≤ n → (t : ℕ) → t < w → get_or ws (w * (d + j) + t) 0 ≡ get_or l (w * (s + j) + t) 0
      word j u t v =
          let f = mul-le-mul_left w u in
          let m = length_words l (w * s) (w * n) in
          let to : w * (d + j) + t ≡ w * d + (w * j + t) = omega arith in
          let from : w * s + (w * j + t) ≡ w * (s + j) + t = omega arith in
          ap (λ (k : List ℕ). get_or k (w * (d + j) + t) 0) e
          ∙ ap (λ (i : ℕ). get_or (sets l (w * d) (words l (w * s) (w * n))) i 0) to
          ∙ get_or_sets_in (words l (w * s) (w * n)) l (w * d) (w * j + t) (omega arith) (omega arith)
          ∙ words-at l (w * s) (w * n) (w * j + t) (omega arith)
          ∙ ap (λ (i : ℕ). get_or l i 0) from

  module _ (at : ℕ → ℕ) where
    long : (i n : ℕ) → length (blocks (λ j. g l (at j)) i n) ≡ n * w
    long i n = blocks_length (λ j. g l (at j)) w (λ j. r.wide l (at j)) i n

    -- after j records from the first on, the next n: b is where they go, `here` where they stand
    pub down_more : (ws : List ℕ) (base j n b : ℕ) (here : ℕ → ℕ) → ws ≡ sets l base (blocks (λ j. g l (at j)) 0 j) → b ≡ base + j * w
        → ((i : ℕ) → i < n → here i ≡ at (j + i)) → ((i : ℕ) → i < n → b ≤ at (j + i))
        → sets ws b (blocks (λ i. g ws (here i)) 0 n) ≡ sets l base (blocks (λ j. g l (at j)) 0 (j + n))
    down_more ws base j n b here e eb same above =
        let f : ℕ → List ℕ = λ j. g l (at j) in
        let m = long 0 j in
        let eb' : b ≡ base + length (blocks f 0 j) = omega arith in
        ap (sets ws b) (blocks-same (λ i. g ws (here i)) (λ i. f (j + i)) 0 n (λ i v. ap (g ws) (same i (omega arith)) ∙ r.near ws l (at (j + i)) (at (j + i)) (λ t u. word t (at (j + i)) (above i (omega arith)))))
        ∙ ap (sets ws b) (blocks_from f j n)
        ∙ ap (λ (k : List ℕ). sets k b (blocks f j n)) e
        ∙ ap (λ (k : ℕ). sets (sets l base (blocks f 0 j)) k (blocks f j n)) eb'
        ∙ sym (sets_append (blocks f 0 j) (blocks f j n) l base)
        ∙ ap (sets l base) (sym (blocks_append f 0 j n ∙ ap (λ (k : ℕ). blocks f 0 j ++ blocks f k n) (zero-add j)))
      where
        word : (t i : ℕ) → b ≤ i → get_or ws (i + t) 0 ≡ get_or l (i + t) 0
        word t i h = ap (λ (k : List ℕ). get_or k (i + t) 0) e ∙ get_or_sets_above (blocks (λ j. g l (at j)) 0 j) l base (i + t) 0 (omega (arith, long 0 j))

    -- after n records down to record j₁, the m before
    pub up_more : (ws : List ℕ) (j j₁ m n b b₁ : ℕ) (here : ℕ → ℕ) → ws ≡ sets l b₁ (blocks (λ j. g l (at j)) j₁ n) → j₁ ≡ j + m → b₁ ≡ b + m * w
        → ((i : ℕ) → i < m → here i ≡ at (j + i)) → ((i : ℕ) → i < m → at (j + i) + w ≤ b₁)
        → sets ws b (blocks (λ i. g ws (here i)) 0 m) ≡ sets l b (blocks (λ j. g l (at j)) j (m + n))
    up_more ws j j₁ m n b b₁ here e ej eb same below =
        let f : ℕ → List ℕ = λ j. g l (at j) in
        let k = long j m in
        let eb' : b₁ ≡ b + length (blocks f j m) = omega arith in
        ap (sets ws b) (blocks-same (λ i. g ws (here i)) (λ i. f (j + i)) 0 m (λ i v. ap (g ws) (same i (omega arith)) ∙ r.near ws l (at (j + i)) (at (j + i)) (λ t u. word t (at (j + i)) u (below i (omega arith)))))
        ∙ ap (sets ws b) (blocks_from f j m)
        ∙ ap (λ (k : List ℕ). sets k b (blocks f j m)) e
        ∙ ap (λ (k : ℕ). sets (sets l k (blocks f j₁ n)) b (blocks f j m)) eb'
        ∙ sets_before (blocks f j m) (blocks f j₁ n) l b
        ∙ ap (λ (k : ℕ). sets l b (blocks f j m ++ blocks f k n)) ej
        ∙ ap (sets l b) (sym (blocks_append f j m n))
      where
        word : (t i : ℕ) → t < w → i + w ≤ b₁ → get_or ws (i + t) 0 ≡ get_or l (i + t) 0
        word t i u h = ap (λ (k : List ℕ). get_or k (i + t) 0) e ∙ get_or_sets_below (blocks (λ j. g l (at j)) j₁ n) l b₁ (i + t) 0 (omega arith)

    -- the next one
    pub down_turn : (ws ws₁ : List ℕ) (base j b : ℕ) → ws₁ ≡ sets ws b (g ws (at j)) → ws ≡ sets l base (blocks (λ j. g l (at j)) 0 j) → b ≡ base + j * w → b ≤ at j
        → ws₁ ≡ sets l base (blocks (λ j. g l (at j)) 0 (j + 1))
    down_turn ws ws₁ base j b now e eb h =
        now
        ∙ ap (sets ws b) (sym (append-nil (g ws (at j))))
        ∙ down_more ws base j 1 b (λ i. at j) e eb (λ i v. ap at (omega arith)) (λ i v. subst (λ (k : ℕ). b ≤ at k) (omega arith) h)

-- Records brought a batch of k at a time.
module _ {w : ℕ} {g : List ℕ → ℕ → List ℕ} (r : Width w g) (l ws ws₁ : List ℕ) (s d k : ℕ) where
  abbrev f : ℕ → List ℕ
  f j = g l (w * (s + j))

  -- the next batch after the first j, down
  pub batch_down : (j done m : ℕ) → d ≤ s → done ≡ j → m ≡ j + k → ws ≡ sets l (w * d) (blocks f 0 done) → ws₁ ≡ sets ws (w * (d + j)) (blocks (λ i. g ws (w * (s + j + i))) 0 k)
      → ws₁ ≡ sets l (w * d) (blocks f 0 m)
  batch_down j done m way ed em e now =
      let so : ws ≡ sets l (w * d) (blocks f 0 j) = e ∙ ap (λ (n : ℕ). sets l (w * d) (blocks f 0 n)) ed in
      now
      ∙ down_more r l (λ i. w * (s + i)) ws (w * d) j k (w * (d + j)) (λ i. w * (s + j + i)) so (omega arith) (λ i v. omega arith) (λ i v. above i)
      ∙ ap (λ (n : ℕ). sets l (w * d) (blocks f 0 n)) (sym em)
    where
      above : (i : ℕ) → w * (d + j) ≤ w * (s + (j + i))
      above i = let h : d + j ≤ s + (j + i) = omega arith in mul-le-mul_left w h

  -- the batch before the n records from x on, up
  pub batch_up : (j left x n m : ℕ) → s ≤ d → left ≡ j → x ≡ j + k → m ≡ k + n → ws ≡ sets l (w * (d + x)) (blocks f x n)
      → ws₁ ≡ sets ws (w * (d + j)) (blocks (λ i. g ws (w * (s + j + i))) 0 k) → ws₁ ≡ sets l (w * (d + left)) (blocks f left m)
  batch_up j left x n m way el q em e now =
      now
      ∙ up_more r l (λ i. w * (s + i)) ws j x k n (w * (d + j)) (w * (d + x)) (λ i. w * (s + j + i)) e q (ap (λ (y : ℕ). w * (d + y)) q ∙ omega arith) (λ i v. omega arith) (λ i v. below i v)
      ∙ ap (λ (k : ℕ). sets l (w * (d + j)) (blocks f j k)) (sym em)
      ∙ ap (λ (i : ℕ). sets l (w * (d + i)) (blocks f i m)) (sym el)
    where
      below : (i : ℕ) → i < k → w * (s + (j + i)) + w ≤ w * (d + x)
      below i v = let h : s + (j + i) + 1 ≤ d + x = omega arith in omega (arith, mul-le-mul_left w h)

  -- one batch: its words copied, and then made records
  pub batch_brought : w * (s + k) ≤ length l → w * (d + k) ≤ length l → ws ≡ copy_within l (w * s) (w * (s + k)) (w * d) → ws₁ ≡ sets ws (w * d) (blocks (λ j. g ws (w * (d + j))) 0 k)
      → ws₁ ≡ sets l (w * d) (blocks f 0 k)
  batch_brought from to e now =
      let end : w * (s + k) ≡ w * s + w * k = omega arith in
      now ∙ all_brought r l ws s d k to (e ∙ ap (λ (n : ℕ). copy_within l (w * s) n (w * d)) end ∙ words_copied l (w * s) (w * d) (w * k) (omega arith) (omega arith))

-- records that are the words where they stand
pub blocks_still : (w : ℕ) (l : List ℕ) (f : ℕ → List ℕ) (from : ℕ) → ((j : ℕ) → f j ≡ words l (w * (from + j)) w) → (i n : ℕ) → sets l (w * (from + i)) (blocks f i n) ≡ l
blocks_still w l f from h i zero = refl
blocks_still w l f from h i (suc n) =
    let here : sets l (w * (from + i)) (f i) ≡ l = ap (sets l (w * (from + i))) (h i) ∙ sets_words l (w * (from + i)) w in
    let next : w * (from + i) + length (f i) ≡ w * (from + suc i) = ap (λ (v : List ℕ). w * (from + i) + length v) (h i) ∙ omega (arith, length_words l (w * (from + i)) w) in
    sets_append (f i) (blocks f (suc i) n) l (w * (from + i))
    ∙ ap (λ (k : List ℕ). sets k (w * (from + i) + length (f i)) (blocks f (suc i) n)) here
    ∙ ap (λ (k : ℕ). sets l k (blocks f (suc i) n)) next
    ∙ blocks_still w l f from h (suc i) n

-- Token records and line records.

pub token-width : (d e : ℕ) → Width token_size (moved_token d e)
token-width d e = record_width token_size 1 3 d e (omega arith) (omega arith)

pub line-width : (d e : ℕ) → Width line_size (moved_line d e)
line-width d e = record_width line_size 0 1 d e (omega arith) (omega arith)
