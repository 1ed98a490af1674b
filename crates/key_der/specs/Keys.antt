-- Keys of ML-KEM as texts in DER: the object identifiers are those of NIST's register of computer
-- security objects, and the private key is the choice `seed` of ML-KEM's profile for the Internet's
-- public key infrastructure (draft-ietf-lamps-kyber-certificates).
use Rattle.std.specs.Prelude.{ℕ, ◌+◌, ◌*◌, ◌-◌, List, [], ◌∷◌, ◌++◌}
use Rattle.std.specs.List.{flat_map}
use Rattle.ml_kem.specs.Parameters.{Parameters}
use Rattle.key_der.specs.Der.{bit_string, encoding, implicit_0, integer, object_identifier, octet_string, opening, sequence, subidentifier}

-- the contents octets of the object identifier 2.16.840.1.101.3.4.4 and 1, 2 or 3, of id-alg-ml-kem-512,
-- -768 and -1024. Its first two arcs are one subidentifier (X.690, 8.19.4)
unfoldable pub oid : Parameters → List ℕ
oid set = flat_map subidentifier ((40 * 2 + 16) ∷ 840 ∷ 1 ∷ 101 ∷ 3 ∷ 4 ∷ 4 ∷ (set.k - 1) ∷ [])

-- AlgorithmIdentifier (RFC 5280, section 4.1.1.2): the object identifier, and no parameters
unfoldable pub algorithm_identifier : Parameters → List ℕ
algorithm_identifier set = encoding sequence (encoding object_identifier (oid set))

-- OneAsymmetricKey (RFC 5958, section 2): version 0, which is v1, the algorithm, and as private key an
-- octet string that holds the choice `seed`, [0] of an octet string of 64 bytes; no attributes and no
-- public key
unfoldable pub one_asymmetric_key : Parameters → List ℕ → List ℕ
one_asymmetric_key set seed = encoding sequence
    (encoding integer (0 ∷ []) ++ algorithm_identifier set ++ encoding octet_string (encoding implicit_0 seed))

-- SubjectPublicKeyInfo (RFC 5280, section 4.1): the algorithm, and as bit string the encapsulation key, of
-- whose last byte 0 bits are unused
unfoldable pub subject_public_key_info : Parameters → List ℕ → List ℕ
subject_public_key_info set ek = encoding sequence (algorithm_identifier set ++ encoding bit_string (0 ∷ ek))

-- the bytes of a seed
abbrev pub seed_size : ℕ
seed_size = 64

-- the header of a private key: all that stands before its seed
unfoldable pub private_header : Parameters → List ℕ
private_header set = opening sequence 84 ++ encoding integer (0 ∷ []) ++ algorithm_identifier set
    ++ opening octet_string 66 ++ opening implicit_0 seed_size

-- the header of a public key: all that stands before the encapsulation key
unfoldable pub public_header : Parameters → List ℕ
public_header set = opening sequence (set.ek_size + 18) ++ algorithm_identifier set
    ++ opening bit_string (set.ek_size + 1) ++ 0 ∷ []
