-- A list of names with bytes.
use Rattle.std.specs.Prelude.{ℕ, if◌then◌else◌, List, [], ◌∷◌, Option, Some, None, refl, unwrap_or}
use Rattle.std.specs.Str.{bytes_eq}
use Rattle.std.specs.Coded.{Coded, code_by, coded×, coded_ℕ, coded_list}

-- a name, and the bytes that it names
abbrev pub NamedBytes : Type 0
NamedBytes = List ℕ × List ℕ

abbrev pub named_code : Coded (List NamedBytes)
named_code = coded_list (coded× (coded_list coded_ℕ) (coded_list coded_ℕ))

-- the bytes of a name: those of the first with that name
abbrev pub bytes_of : List NamedBytes → List ℕ → Option (List ℕ)
bytes_of [] name = None
bytes_of (file ∷ files) name = if bytes_eq file.0 name then Some file.1 else bytes_of files name

-- the same, where a name that isn't listed names no bytes
abbrev pub bytes_or_none : List NamedBytes → List ℕ → List ℕ
bytes_or_none files name = unwrap_or (bytes_of files name) []

-- named bytes, and how many calls have failed
pub record FaultyFiles : Type 0 where
  pub files : List NamedBytes
  pub faults : ℕ

abbrev pub faulty_code : Coded FaultyFiles
faulty_code =
    code_by (List NamedBytes × ℕ) (coded× named_code coded_ℕ) (λ f. (f.files, f.faults))
    (λ p. record { files = p.0; faults = p.1 }) (λ _. refl)

-- what was written, how many bytes more have room, and how many calls have failed
pub record RoomyBytes : Type 0 where
  pub bytes : List ℕ
  pub spare : ℕ
  pub faults : ℕ

abbrev pub roomy_code : Coded RoomyBytes
roomy_code =
    code_by (List ℕ × (ℕ × ℕ)) (coded× (coded_list coded_ℕ) (coded× coded_ℕ coded_ℕ))
    (λ r. (r.bytes, (r.spare, r.faults))) (λ p. record { bytes = p.0; spare = p.1.0; faults = p.1.1 }) (λ _. refl)
