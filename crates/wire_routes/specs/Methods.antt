-- The methods of messages (RFC 9110, section 9), which are compared as they are.
use Rattle.std.specs.Prelude.{ℕ, cond, List, codes}
use Rattle.std.specs.Str.{bytes_eq}
use Rattle.wire_routes.specs.declared.method.Method.{Method}
use Rattle.wire_routes.specs.declared.method.Method.TheVariants.{Delete, Get, Post, Put, Other}

abbrev pub method_of : List ℕ → Method
method_of word =
    cond (bytes_eq word (codes "DELETE")) Delete
    (cond (bytes_eq word (codes "GET")) Get
    (cond (bytes_eq word (codes "POST")) Post
    (cond (bytes_eq word (codes "PUT")) Put
    Other)))
