-- The columns of each height, computed.
use Rattle.std.proofs.Common.{◌≡◌, ℕ, zero, suc, ◌-◌, ◌^◌, ◌≤◌, [], ◌∷◌, length, refl, ap, arith}
use Rattle.ibx_secded.specs.Code.{weight, numbers_of_weight, columns}

-- the columns of height 4: the four numbers of weight 3
pub columns_4 : columns 4 ≡ 7 ∷ 11 ∷ 13 ∷ 14 ∷ []
unfolding weight numbers_of_weight columns
columns_4 = refl

-- the columns of height 5: ten of weight 3, and then 31, of weight 5
pub columns_5 : columns 5 ≡ 7 ∷ 11 ∷ 13 ∷ 14 ∷ 19 ∷ 21 ∷ 22 ∷ 25 ∷ 26 ∷ 28 ∷ 31 ∷ []
unfolding weight numbers_of_weight columns
columns_5 = refl

-- the columns of height 6: 20 of weight 3, and then six of weight 5
pub columns_6 : columns 6 ≡ 7 ∷ 11 ∷ 13 ∷ 14 ∷ 19 ∷ 21 ∷ 22 ∷ 25 ∷ 26 ∷ 28 ∷ 35 ∷ 37 ∷ 38 ∷ 41 ∷ 42 ∷ 44 ∷ 49 ∷ 50 ∷ 52
    ∷ 56 ∷ 31 ∷ 47 ∷ 55 ∷ 59 ∷ 61 ∷ 62 ∷ []
unfolding weight numbers_of_weight columns
columns_6 = refl

-- the columns of height 7: 35 of weight 3, 21 of weight 5, and 127 as the last
pub columns_7 : columns 7 ≡ 7 ∷ 11 ∷ 13 ∷ 14 ∷ 19 ∷ 21 ∷ 22 ∷ 25 ∷ 26 ∷ 28 ∷ 35 ∷ 37 ∷ 38 ∷ 41 ∷ 42 ∷ 44 ∷ 49 ∷ 50 ∷ 52
    ∷ 56 ∷ 67 ∷ 69 ∷ 70 ∷ 73 ∷ 74 ∷ 76 ∷ 81 ∷ 82 ∷ 84 ∷ 88 ∷ 97 ∷ 98 ∷ 100 ∷ 104 ∷ 112 ∷ 31 ∷ 47 ∷ 55 ∷ 59 ∷ 61 ∷ 62 ∷
    79 ∷ 87 ∷ 91 ∷ 93 ∷ 94 ∷ 103 ∷ 107 ∷ 109 ∷ 110 ∷ 115 ∷ 117 ∷ 118 ∷ 121 ∷ 122 ∷ 124 ∷ 127 ∷ []
unfolding weight numbers_of_weight columns
columns_7 = refl

-- the columns of height 8: 56 of weight 3, 56 of weight 5 and eight of weight 7
pub columns_8 : columns 8 ≡ 7 ∷ 11 ∷ 13 ∷ 14 ∷ 19 ∷ 21 ∷ 22 ∷ 25 ∷ 26 ∷ 28 ∷ 35 ∷ 37 ∷ 38 ∷ 41 ∷ 42 ∷ 44 ∷ 49 ∷ 50 ∷ 52
    ∷ 56 ∷ 67 ∷ 69 ∷ 70 ∷ 73 ∷ 74 ∷ 76 ∷ 81 ∷ 82 ∷ 84 ∷ 88 ∷ 97 ∷ 98 ∷ 100 ∷ 104 ∷ 112 ∷ 131 ∷ 133 ∷ 134 ∷ 137 ∷ 138 ∷
    140 ∷ 145 ∷ 146 ∷ 148 ∷ 152 ∷ 161 ∷ 162 ∷ 164 ∷ 168 ∷ 176 ∷ 193 ∷ 194 ∷ 196 ∷ 200 ∷ 208 ∷ 224 ∷ 31 ∷ 47 ∷ 55 ∷ 59 ∷
    61 ∷ 62 ∷ 79 ∷ 87 ∷ 91 ∷ 93 ∷ 94 ∷ 103 ∷ 107 ∷ 109 ∷ 110 ∷ 115 ∷ 117 ∷ 118 ∷ 121 ∷ 122 ∷ 124 ∷ 143 ∷ 151 ∷ 155 ∷
    157 ∷ 158 ∷ 167 ∷ 171 ∷ 173 ∷ 174 ∷ 179 ∷ 181 ∷ 182 ∷ 185 ∷ 186 ∷ 188 ∷ 199 ∷ 203 ∷ 205 ∷ 206 ∷ 211 ∷ 213 ∷ 214 ∷
    217 ∷ 218 ∷ 220 ∷ 227 ∷ 229 ∷ 230 ∷ 233 ∷ 234 ∷ 236 ∷ 241 ∷ 242 ∷ 244 ∷ 248 ∷ 127 ∷ 191 ∷ 223 ∷ 239 ∷ 247 ∷ 251 ∷
    253 ∷ 254 ∷ []
unfolding weight numbers_of_weight columns
columns_8 = refl

-- what holds at each height holds
pub by_height : (P : ℕ → Type 0) → P 4 → P 5 → P 6 → P 7 → P 8 → (h : ℕ) → 4 ≤ h → h ≤ 8 → P h
by_height P a b c d e zero l m = absurd (omega arith)
by_height P a b c d e (suc zero) l m = absurd (omega arith)
by_height P a b c d e (suc (suc zero)) l m = absurd (omega arith)
by_height P a b c d e (suc (suc (suc zero))) l m = absurd (omega arith)
by_height P a b c d e (suc (suc (suc (suc zero)))) l m = a
by_height P a b c d e (suc (suc (suc (suc (suc zero))))) l m = b
by_height P a b c d e (suc (suc (suc (suc (suc (suc zero)))))) l m = c
by_height P a b c d e (suc (suc (suc (suc (suc (suc (suc zero))))))) l m = d
by_height P a b c d e (suc (suc (suc (suc (suc (suc (suc (suc zero)))))))) l m = e
by_height P a b c d e (suc (suc (suc (suc (suc (suc (suc (suc (suc h))))))))) l m = absurd (omega arith)

-- all 2 ^ (h - 1) numbers of odd weight are columns but the h powers of two
pub length-columns : (h : ℕ) → 4 ≤ h → h ≤ 8 → length (columns h) ≡ 2 ^ (h - 1) - h
length-columns =
    by_height (λ h. length (columns h) ≡ 2 ^ (h - 1) - h)
    (ap length columns_4) (ap length columns_5) (ap length columns_6) (ap length columns_7) (ap length columns_8)
