-- A number among the words: one or more digits, leading zeros read, as in the bench's script.
--   number_after n s == the number that the digits s stand for behind the number n, as far as it is asked: no more than 1000;
--                      none where s has anything else
--   number_in s      == that of s alone
-- Assumes nothing.
use Rattle.std.specs.Prelude.{ℕ, ◌+◌, ◌-◌, ◌*◌, min, cond, List, [], ◌∷◌, Option, Some, None, nat_lt}

unfoldable pub number_after : ℕ → List ℕ → Option ℕ
number_after n [] = Some n
number_after n (x ∷ xs) =
    cond (nat_lt x 48) None (cond (nat_lt 57 x) None (number_after (min (n * 10 + (x - 48)) 1000) xs))

unfoldable pub number_in : List ℕ → Option ℕ
number_in s = number_after 0 s
