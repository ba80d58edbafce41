pub mod Numbers
pub mod Current
pub mod Passing
