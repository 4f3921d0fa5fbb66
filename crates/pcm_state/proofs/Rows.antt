-- A row is its numbers, read one by one.
use Rattle.std.proofs.Common.{◌≡◌, ℕ, zero, suc, ◌+◌, List, [], ◌∷◌, ◌++◌, length, get_or, take, drop, sym, ap, ◌∙◌, arith}
use Rattle.std.proofs.lemmas.List.{append-nil, drop_all, drop_at, drop_more, take_all, take_at}
use Rattle.std.proofs.Math.Seq.{take-add}
use borrow.Rule.Slice.PartMut.{put_mid}

-- n numbers of a row, from place i on
abbrev pub read_from : List ℕ → ℕ → ℕ → List ℕ
read_from row i zero = []
read_from row i (suc n) = get_or row i 0 ∷ read_from row (i + 1) n

-- the last n are the rest of the row
pub rest-read : (row : List ℕ) (i n : ℕ) → i + n ≡ length row → read_from row i n ≡ drop i row
rest-read row i zero all = sym (drop_all i row (omega arith))
rest-read row i (suc n) all = ap (λ l. get_or row i 0 ∷ l) (rest-read row (i + 1) n (omega arith)) ∙ sym (drop_more row i 0 (omega arith))

-- ---- rows of two halves

-- what is put into the second half follows the first
pub halves-put : (n : ℕ) (a zeros b : List ℕ) → length a ≡ n → length zeros ≡ n → put_mid n n (a ++ zeros) b ≡ a ++ b
halves-put n a zeros b long rest =
    let left : drop n (drop n (a ++ zeros)) ≡ [] = ap (drop n) (drop_at a zeros n long) ∙ drop_all n zeros (omega arith) in
    ap (λ front. front ++ (b ++ drop n (drop n (a ++ zeros)))) (take_at a zeros n long) ∙ ap (λ l. a ++ (b ++ l)) left ∙ ap (λ l. a ++ l) (append-nil b)

-- a row is its halves
pub halves-joined : (n : ℕ) (row : List ℕ) → length row ≡ n + n → take n row ++ take n (drop n row) ≡ row
halves-joined n row long = sym (take-add n n row) ∙ take_all (n + n) row (omega arith)

-- and these are known by it
pub first-half : (n : ℕ) (a b row : List ℕ) → length a ≡ n → a ++ b ≡ row → take n row ≡ a
first-half n a b row long same = ap (take n) (sym same) ∙ take_at a b n long

pub second-half : (n : ℕ) (a b row : List ℕ) → length a ≡ n → length b ≡ n → a ++ b ≡ row → take n (drop n row) ≡ b
second-half n a b row long rest same = ap (λ l. take n (drop n l)) (sym same) ∙ ap (take n) (drop_at a b n long) ∙ take_all n b (omega arith)
