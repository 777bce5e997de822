-- What a device tells of itself.
--   text_of t        == a text after its length
--   without_vendor i == of the identity i, all but the two vendor octets
--   serial_of p      == the serial number
--   information_of p == data out of information: the four texts
-- A text is the first octets of its array, as many as its length says, and the whole array where its length says more;
-- so any plate has an answer of at most 73 octets. Assumes nothing.
use Rattle.std.specs.Prelude.{List, ◌∷◌, ◌++◌, ℕ, length, drop}
use Rattle.identity.specs.Identity.{vendor}
use Rattle.record.specs.Allowed.{identity_of, product_of, hardware_of, software_of}
use Rattle.record.specs.declared.Plate.{Plate}

-- "each after its length"
unfoldable pub text_of : List ℕ → List ℕ
text_of t = length t ∷ t

-- "Identity: 2 vendor octets and 1 to 17 serial octets"
abbrev pub without_vendor : List ℕ → List ℕ
without_vendor i = drop vendor i

abbrev pub serial_of : Plate → List ℕ
serial_of p = without_vendor (identity_of p)

-- "product, serial, hardware, software, each after its length"
unfoldable pub information_of : Plate → List ℕ
information_of p = text_of (product_of p) ++ (text_of (serial_of p) ++ (text_of (hardware_of p) ++ text_of (software_of p)))
