use Rattle.std.proofs.Common.{ℕ, zero, suc, ◌≤◌, arith}

pub any_of_sixteen : (P : ℕ → Type 0) → P 1 → P 2 → P 3 → P 4 → P 5 → P 6 → P 7 → P 8 → P 9 → P 10 → P 11 → P 12 → P 13 → P 14 → P 15 → P 16 → (n : ℕ) → 1 ≤ n → n ≤ 16 → P n
any_of_sixteen P a b c d e f g h i j k l m o p q zero some few = absurd (omega arith)
any_of_sixteen P a b c d e f g h i j k l m o p q (suc zero) some few = a
any_of_sixteen P a b c d e f g h i j k l m o p q (suc (suc zero)) some few = b
any_of_sixteen P a b c d e f g h i j k l m o p q (suc (suc (suc zero))) some few = c
any_of_sixteen P a b c d e f g h i j k l m o p q (suc (suc (suc (suc zero)))) some few = d
any_of_sixteen P a b c d e f g h i j k l m o p q (suc (suc (suc (suc (suc zero))))) some few = e
any_of_sixteen P a b c d e f g h i j k l m o p q (suc (suc (suc (suc (suc (suc zero)))))) some few = f
any_of_sixteen P a b c d e f g h i j k l m o p q (suc (suc (suc (suc (suc (suc (suc zero))))))) some few = g
any_of_sixteen P a b c d e f g h i j k l m o p q (suc (suc (suc (suc (suc (suc (suc (suc zero)))))))) some few = h
any_of_sixteen P a b c d e f g h i j k l m o p q (suc (suc (suc (suc (suc (suc (suc (suc (suc zero))))))))) some few = i
any_of_sixteen P a b c d e f g h i j k l m o p q (suc (suc (suc (suc (suc (suc (suc (suc (suc (suc zero)))))))))) some few = j
any_of_sixteen P a b c d e f g h i j k l m o p q (suc (suc (suc (suc (suc (suc (suc (suc (suc (suc (suc zero))))))))))) some few = k
any_of_sixteen P a b c d e f g h i j k l m o p q (suc (suc (suc (suc (suc (suc (suc (suc (suc (suc (suc (suc zero)))))))))))) some few = l
any_of_sixteen P a b c d e f g h i j k l m o p q (suc (suc (suc (suc (suc (suc (suc (suc (suc (suc (suc (suc (suc zero))))))))))))) some few = m
any_of_sixteen P a b c d e f g h i j k l m o p q (suc (suc (suc (suc (suc (suc (suc (suc (suc (suc (suc (suc (suc (suc zero)))))))))))))) some few = o
any_of_sixteen P a b c d e f g h i j k l m o p q (suc (suc (suc (suc (suc (suc (suc (suc (suc (suc (suc (suc (suc (suc (suc zero))))))))))))))) some few = p
any_of_sixteen P a b c d e f g h i j k l m o p q (suc (suc (suc (suc (suc (suc (suc (suc (suc (suc (suc (suc (suc (suc (suc (suc zero)))))))))))))))) some few = q
any_of_sixteen P a b c d e f g h i j k l m o p q (suc (suc (suc (suc (suc (suc (suc (suc (suc (suc (suc (suc (suc (suc (suc (suc (suc n))))))))))))))))) some few = absurd (omega arith)
