-- A noise that an independent model worked: at ML-KEM-512, of polynomials whose coefficients rise evenly,
-- and of a PRF that is told by a formula.
use Rattle.std.specs.Prelude.{ℕ, ◌+◌, ◌*◌, ◌%◌, List, [], ◌∷◌, map}
use Rattle.std.specs.List.{range_with_len}
use Rattle.kem_hash.specs.Family.{Family}
use Rattle.ml_kem.specs.Keys.{Key}
use Rattle.ml_kem.specs.Parameters.{q}

-- the polynomial whose coefficient i is slope·i + start modulo q
unfoldable pub line : ℕ → ℕ → List ℕ
line slope start = map (λ i. (slope * i + start) % q) (range_with_len 0 256)

-- the family: byte i of PRF is i·i + 31·i + 47·b modulo 256
unfoldable pub worked_family : Family
worked_family = record {
  g_of = λ x. [];
  h_of = λ x. [];
  j_of = λ x. [];
  prf_of = λ eta s b. map (λ i. (i * i + 31 * i + 47 * b) % 256) (range_with_len 0 (64 * eta));
  xof_of = λ rho a b. [];
}

-- the key, of which noise takes A, s, e and t
unfoldable pub worked_key : Key
worked_key = record {
  rho = [];
  a = (line 7 1 ∷ line 11 2 ∷ []) ∷ (line 13 3 ∷ line 17 4 ∷ []) ∷ [];
  s = line 19 5 ∷ line 23 6 ∷ [];
  e = line 29 7 ∷ line 31 8 ∷ [];
  t = line 37 9 ∷ line 41 10 ∷ [];
  ek = [];
  z = [];
}

-- the message
unfoldable pub worked_message : List ℕ
worked_message = map (λ i. (5 * i + 3) % 256) (range_with_len 0 32)

-- the noise modulo q
unfoldable pub worked_noise : List ℕ
worked_noise =
    2839 ∷ 336 ∷ 2613 ∷ 2959 ∷ 3305 ∷ 1136 ∷ 974 ∷ 996 ∷ 1995 ∷ 683 ∷ 2059 ∷ 616 ∷ 2056 ∷ 2173 ∷ 2750 ∷ 2987 ∷
    755 ∷ 853 ∷ 3243 ∷ 451 ∷ 1683 ∷ 366 ∷ 212 ∷ 759 ∷ 877 ∷ 2979 ∷ 2324 ∷ 569 ∷ 1006 ∷ 1860 ∷ 373 ∷ 1870 ∷
    309 ∷ 743 ∷ 1039 ∷ 3081 ∷ 3269 ∷ 312 ∷ 1725 ∷ 1341 ∷ 663 ∷ 33 ∷ 2523 ∷ 2678 ∷ 1002 ∷ 2562 ∷ 657 ∷ 2502 ∷
    505 ∷ 1065 ∷ 3297 ∷ 1263 ∷ 715 ∷ 2968 ∷ 1362 ∷ 3243 ∷ 2928 ∷ 2019 ∷ 678 ∷ 1081 ∷ 854 ∷ 1616 ∷ 2793 ∷ 2580 ∷
    2426 ∷ 1364 ∷ 1085 ∷ 2139 ∷ 1133 ∷ 1216 ∷ 3190 ∷ 2241 ∷ 1698 ∷ 1928 ∷ 496 ∷ 1601 ∷ 1455 ∷ 741 ∷ 19 ∷ 849 ∷
    1407 ∷ 709 ∷ 410 ∷ 2193 ∷ 2413 ∷ 2454 ∷ 2124 ∷ 3168 ∷ 992 ∷ 1174 ∷ 734 ∷ 349 ∷ 2741 ∷ 2155 ∷ 2373 ∷ 1839 ∷
    2018 ∷ 38 ∷ 810 ∷ 1974 ∷ 2306 ∷ 240 ∷ 1973 ∷ 1630 ∷ 1968 ∷ 3313 ∷ 967 ∷ 2295 ∷ 1165 ∷ 739 ∷ 2256 ∷ 276 ∷
    1057 ∷ 3107 ∷ 267 ∷ 532 ∷ 2682 ∷ 2060 ∷ 216 ∷ 1 ∷ 2664 ∷ 1618 ∷ 115 ∷ 2762 ∷ 1860 ∷ 2458 ∷ 2082 ∷ 952 ∷
    1124 ∷ 2467 ∷ 2312 ∷ 1951 ∷ 2069 ∷ 1061 ∷ 1619 ∷ 333 ∷ 850 ∷ 2547 ∷ 926 ∷ 3267 ∷ 2163 ∷ 1651 ∷ 1230 ∷ 791 ∷
    1120 ∷ 43 ∷ 468 ∷ 2221 ∷ 1593 ∷ 902 ∷ 2482 ∷ 1310 ∷ 991 ∷ 2316 ∷ 2404 ∷ 1704 ∷ 2900 ∷ 442 ∷ 1402 ∷ 2182 ∷
    1254 ∷ 874 ∷ 2092 ∷ 815 ∷ 2810 ∷ 1446 ∷ 1961 ∷ 1704 ∷ 1146 ∷ 2829 ∷ 2900 ∷ 81 ∷ 39 ∷ 2338 ∷ 337 ∷ 1639 ∷
    2077 ∷ 2094 ∷ 1706 ∷ 2929 ∷ 1431 ∷ 837 ∷ 170 ∷ 910 ∷ 517 ∷ 2066 ∷ 287 ∷ 1214 ∷ 2874 ∷ 2258 ∷ 1319 ∷ 3263 ∷
    2157 ∷ 697 ∷ 1383 ∷ 338 ∷ 1660 ∷ 313 ∷ 2189 ∷ 763 ∷ 283 ∷ 2645 ∷ 2012 ∷ 978 ∷ 248 ∷ 1688 ∷ 2629 ∷ 1180 ∷
    1433 ∷ 3117 ∷ 2067 ∷ 2126 ∷ 435 ∷ 371 ∷ 1526 ∷ 1303 ∷ 2932 ∷ 257 ∷ 2868 ∷ 313 ∷ 1542 ∷ 1663 ∷ 542 ∷ 68 ∷
    1380 ∷ 836 ∷ 1752 ∷ 405 ∷ 2809 ∷ 2659 ∷ 2795 ∷ 521 ∷ 2875 ∷ 1445 ∷ 1404 ∷ 2605 ∷ 2267 ∷ 1031 ∷ 2029 ∷ 2866 ∷
    1057 ∷ 1084 ∷ 2175 ∷ 1155 ∷ 3184 ∷ 1648 ∷ 1613 ∷ 1314 ∷ 3262 ∷ 2506 ∷ 279 ∷ 1352 ∷ 1472 ∷ 2444 ∷ 2496 ∷ 2201 ∷ []
