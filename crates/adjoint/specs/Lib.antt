pub mod Adjoint
pub mod Hermitian
