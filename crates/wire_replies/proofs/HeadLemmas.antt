-- The pieces of a head, one behind another.
use Rattle.std.proofs.Common.{◌≡◌, ℕ, List, [], ◌++◌, codes, append_assoc, refl}

pub head_joined : (status phrase type count methods connection : List ℕ)
    → ((((((((((([] ++ codes "HTTP/1.1 ") ++ status) ++ codes " ") ++ phrase) ++ codes
    "\r\nContent-Type: ") ++ type) ++ codes "\r\nContent-Length: ") ++ count) ++ codes "\r\n")
    ++ methods) ++ connection) ++ codes "\r\n"
    ≡ codes "HTTP/1.1 " ++ (status ++ (codes " " ++ (phrase ++ (codes "\r\nContent-Type: " ++ (type
    ++ (codes "\r\nContent-Length: "
    ++ (count ++ (codes "\r\n" ++ (methods ++ (connection ++ codes "\r\n"))))))))))
head_joined status phrase type count methods connection = simp append_assoc refl
